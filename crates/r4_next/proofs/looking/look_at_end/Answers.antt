use Rattle.std.proofs.Common.{◌∙◌, None, ap, sym}
use Rattle.r4_served.specs.Serving.{IsLeft}
use Rattle.r4_served.proofs.r4_take.Sent.{on_any}
use Rattle.r4_turns.specs.Turns.{turn_at}
use Rattle.r4_next.proofs.Found.{leave_stands, left_in_room, takes_reply, unfinished_by_txn}
use Rattle.r4_next.proofs.looking.look_at_end.Goals as goal

pub leave-requires-clause-stands : goal.leave-requires-clause-stands
leave-requires-clause-stands g c κs within =
    let s = c.args.script in
    let at = sym (c.open.ensures ∙ ap (λ t. (turn_at t s.0).transaction) c.turns-2.ensures) ∙ c.in-Some.is in
    leave_stands _ _ c.args.core.now c.lawful.ensures.kept s.0 c.requires.script c.requires.sound c.requires.next
    c.in-Some.open at

pub returns-in_err-leave-clause-err : goal.returns-in_err-leave-clause-err
returns-in_err-leave-clause-err g c =
    let core = c.args.core.now in
    let d = g.D.Device.state in
    let new = c.leave.new.core in
    on_any c.from_residual.result (IsLeft (d core.dev) (d new.dev) core new)
    (left_in_room d core new c.in_err-leave.ensures.err)

pub returns-clause-ok : goal.returns-clause-ok
returns-clause-ok g c =
    let core = c.args.core.now in
    let s = c.args.script in
    let at = sym (c.open.ensures ∙ ap (λ t. (turn_at t s.0).transaction) c.turns-2.ensures) ∙ c.in-Some.is in
    let stands = leave_stands _ _ core c.lawful.ensures.kept s.0 c.requires.script c.requires.sound c.requires.next
    c.in-Some.open at in
    takes_reply g.D.Device.state core c.leave.new.core s None c.requires.next c.requires.free
    (unfinished_by_txn core s.0 c.in-Some.open c.requires.sound at) c.requires.sound (λ w h. h)
    (c.in-Some.open.txn, stands.transaction, c.in_ok-leave.ensures.ok)
