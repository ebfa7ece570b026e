use Rattle.std.proofs.Common.{◌<◌, ◌-◌, List, Option, length, ap, sym, ◌∙◌, arith}
use Rattle.r4_base.specs.declared.things.NodeId.{NodeId}
use Rattle.r4_turns.specs.Turns.{TurnsSeen, gone_out, turn_at, with_turn}
use Rattle.r4_renaming.specs.Steps.{turn_keeping}
use Rattle.r4_renaming.proofs.Tasks.{put_back}
use Rattle.r4_renaming.proofs.pins.put_one.Goals as goal

pub returns-in-Some : goal.returns-in-Some
returns-in-Some c =
    let t = c.args.turns.now in
    let s = c.args.script.0 in
    let some = c.requires.script.0 in
    let within = c.requires.script.1 in
    let lt : s - 1 < length t.turns = omega (arith, some, within) in
    c.take_out.ensures
    ∙ ap (λ (z : TurnsSeen). gone_out z s (record c.drop_out-out.result { pins = c.in-Some.pins }))
    c.drop_out-out.ensures.turn
    ∙ put_back t s c.drop_out-out.result c.in-Some.pins lt c.drop_out-out.ensures.task
    ∙ ap (λ (o : Option (List NodeId)). with_turn t s (turn_keeping o (turn_at t s))) (sym c.in-Some.is)
