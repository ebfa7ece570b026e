use Rattle.std.proofs.Common.{◌∙◌, Some, ap, sym}
use Rattle.r4_content.specs.declared.command.Command.TheVariants as asks
use Rattle.r4_served.specs.Serving.{IsLeft}
use Rattle.r4_served.proofs.r4_take.Sent.{on_any}
use Rattle.r4_turns.specs.Turns.{turn_at}
use Rattle.r4_next.proofs.Found.{end_stands, left_in_room, no_end_outside, takes_reply, unfinished_by_next}
use Rattle.r4_next.proofs.looking.look_at_turn_end.Goals as goal

pub unreachable-requires : goal.unreachable-requires
unreachable-requires g c =
    let s = c.args.script in
    let at = sym (c.open.ensures ∙ ap (λ t. (turn_at t s.0).transaction) c.turns.ensures) ∙ c.in_default.is in
    no_end_outside _ _ c.args.core.now c.lawful.ensures.kept s.0 c.requires.script c.requires.sound c.requires.next at

pub end-requires-clause-stands : goal.end-requires-clause-stands
end-requires-clause-stands g c κs within =
    let s = c.args.script in
    let at = sym (c.open.ensures ∙ ap (λ t. (turn_at t s.0).transaction) c.turns.ensures) ∙ c.in-Some.is in
    end_stands _ _ c.args.core.now c.lawful.ensures.kept s.0 c.requires.script c.requires.sound c.requires.next
    c.in-Some.open at

pub returns-in_err-end-clause-err : goal.returns-in_err-end-clause-err
returns-in_err-end-clause-err g c =
    let core = c.args.core.now in
    let d = g.D.Device.state in
    let new = c.end.new.core in
    on_any c.from_residual.result (IsLeft (d core.dev) (d new.dev) core new)
    (left_in_room d core new c.in_err-end.ensures.err)

pub returns-clause-ok : goal.returns-clause-ok
returns-clause-ok g c =
    let core = c.args.core.now in
    let s = c.args.script in
    let at = sym (c.open.ensures ∙ ap (λ t. (turn_at t s.0).transaction) c.turns.ensures) ∙ c.in-Some.is in
    let stands = end_stands _ _ core c.lawful.ensures.kept s.0 c.requires.script c.requires.sound c.requires.next
    c.in-Some.open at in
    takes_reply g.D.Device.state core c.end.new.core s (Some asks.End) c.requires.next c.requires.free
    (unfinished_by_next core s.0 asks.End c.requires.next) c.requires.sound (λ w h. h)
    (c.in-Some.open.txn, stands.transaction, c.in_ok-end.ensures.ok)
