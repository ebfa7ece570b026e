use Rattle.std.proofs.Common.{Some}
use Rattle.r4_content.specs.declared.command.Command.TheVariants as asks
use Rattle.r4_served.specs.Serving.{IsLeft}
use Rattle.r4_served.proofs.r4_take.Sent.{on_any}
use Rattle.r4_next.proofs.Found.{begin_stands, left_in_room, takes_reply, unfinished_by_next}
use Rattle.r4_next.proofs.looking.look_at_begin.Goals as goal

pub begin-requires-clause-stands : goal.begin-requires-clause-stands
begin-requires-clause-stands g c κs within =
    begin_stands _ _ c.args.core.now c.lawful.ensures.kept c.args.script.0 c.requires.script c.requires.sound
    c.requires.next

pub returns-in_err-begin-clause-err : goal.returns-in_err-begin-clause-err
returns-in_err-begin-clause-err g c =
    let core = c.args.core.now in
    let d = g.D.Device.state in
    let new = c.begin.new.core in
    on_any c.from_residual.result (IsLeft (d core.dev) (d new.dev) core new)
    (left_in_room d core new c.in_err-begin.ensures.err)

pub returns-clause-ok : goal.returns-clause-ok
returns-clause-ok g c =
    let core = c.args.core.now in
    let s = c.args.script in
    takes_reply g.D.Device.state core c.begin.new.core s (Some asks.Begin) c.requires.next c.requires.free
    (unfinished_by_next core s.0 asks.Begin c.requires.next) c.requires.sound (λ w h. h)
    (c.in_ok-begin.field-0, c.in_ok-begin.ensures.ok)
