use Rattle.std.proofs.Common.{◌∙◌, refl}
use Rattle.r4_history.specs.Tables.{next_at}
use Rattle.r4_served.specs.Serving.{IsLeft}
use Rattle.r4_served.proofs.r4_take.Sent.{on_any}
use Rattle.r4_next.proofs.Found.{can_after_failure, left_in_room, replied_after_failure}
use Rattle.r4_next.proofs.OfKind.{some_of}
use Rattle.r4_next.proofs.looking.look_after_failure.Goals as goal

pub returns-in_err-reopen-clause-err : goal.returns-in_err-reopen-clause-err
returns-in_err-reopen-clause-err g c =
    let core = c.args.core.now in
    let d = g.D.Device.state in
    let new = c.reopen.new.core in
    on_any c.from_residual.result (IsLeft (d core.dev) (d new.dev) core new)
    (left_in_room d core new c.in_err-reopen.ensures.err)

pub returns-clause-ok : goal.returns-clause-ok
returns-clause-ok g c =
    let core = c.args.core.now in
    let s = c.args.script in
    let d = g.D.Device.state in
    let new = c.reopen.new.core in
    let some = some_of (next_at core.turns s.0) (λ e. c.in_default.not-Nothing (c.requires.next ∙ e)) in (
      can_after_failure core s.0 c.args.failed c.requires.failed some.0 some.1 c.requires.free,
      (
        refl,
        replied_after_failure (d core.dev) (d new.dev) core new s c.args.failed c.requires.failed c.in_ok-reopen.ensures.ok,
      ),
    )
