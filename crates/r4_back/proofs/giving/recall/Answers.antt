use Rattle.std.proofs.Common.{◌∙◌, ◌+◌}
use Rattle.r4_turns.specs.Turns.{turn_at}
use Rattle.r4_back.proofs.Back.{as_many, one_more}
use Rattle.r4_back.proofs.giving.recall.Goals as goal

pub loop-at-preserved : goal.loop-at-preserved
loop-at-preserved g c =
    let old = c.args.core.now in
    let mid = c.loop-at.core in
    let new = c.recall_of.new.core in
    let n = c.loop-at.at in (
      one_more old mid new n c.loop-at.invariant.0 c.recall_of.ensures,
      as_many mid new (n + 1) (turn_at mid.turns (n + 1)).out c.recall_of.ensures ∙ c.loop-at.invariant.1,
    )
