use Rattle.std.proofs.Common.{◌∙◌, sym, arith}
use Rattle.r4_base.specs.Key.{rank}
use Rattle.r4_content.specs.Edited.{changed}
use Rattle.r4_content.specs.Held.{edits_of}
use Rattle.r4_measure.specs.r4_reach.Needs.{is_met}
use Rattle.r4_build.proofs.Made.{none_here}
use Rattle.r4_build.proofs.building.make_in.Goals as goal
use Rattle.r4_build.proofs.building.make_in.Goals.{else-level-eq1-via-then-level-eq1+else-touches_leaf, else-level-eq1-via-else-level-eq1}

pub returns-else-level-eq1-clause-made : goal.returns-else-level-eq1-clause-made
returns-else-level-eq1-clause-made c = λ t r cells can.
    let e = edits_of c.args.edits.now in
    none_here t r e c.args.cell.now cells c.args.fresh.now c.args.set.now (elim c.else-level-eq1.branch [
      | else-level-eq1-via-then-level-eq1+else-touches_leaf w ↦ λ one.
          (λ i. is_met (changed e) (rank (sym w.lo.ensures i)) (rank (sym w.hi.ensures i))) ∙ (sym w.touches_leaf.ensures ∙ w.if-touches_leaf.false)
      | else-level-eq1-via-else-level-eq1 w ↦ λ one. let other = w.if-level-eq1.false in let level = c.level.ensures in absurd (omega (arith, other, level, one))
    ]) can
