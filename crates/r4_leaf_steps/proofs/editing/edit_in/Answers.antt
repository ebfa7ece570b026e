use Rattle.std.proofs.Common.{◌∙◌, sym, arith}
use Rattle.r4_base.specs.Key.{rank}
use Rattle.r4_build.specs.r4_measure.r4_cell.Patch.{root_of_pair}
use Rattle.r4_build.specs.r4_reach.Needs.{is_met}
use Rattle.r4_content.specs.Edited.{changed}
use Rattle.r4_content.specs.Held.{edits_of}
use Rattle.r4_leaf_steps.proofs.Edited.{none_edited}
use Rattle.r4_leaf_steps.proofs.editing.edit_in.Goals as goal
use Rattle.r4_leaf_steps.proofs.editing.edit_in.Goals.{else-level-eq1-via-then-level-eq1+else-touches_leaf, else-level-eq1-via-else-level-eq1}

pub returns-else-level-eq1-clause-edited : goal.returns-else-level-eq1-clause-edited
returns-else-level-eq1-clause-edited c = λ t working.
    let e = edits_of c.args.edits.now in
    none_edited t (root_of_pair c.args.root.now) e c.args.cell.now c.args.fresh.now c.args.set.now working (elim c.else-level-eq1.branch [
      | else-level-eq1-via-then-level-eq1+else-touches_leaf w ↦ λ one.
          (λ i. is_met (changed e) (rank (sym w.lo.ensures i)) (rank (sym w.hi.ensures i))) ∙ (sym w.touches_leaf.ensures ∙ w.if-touches_leaf.false)
      | else-level-eq1-via-else-level-eq1 w ↦ λ one. let other = w.if-level-eq1.false in let level = c.level.ensures in absurd (omega (arith, other, level, one))
    ])
