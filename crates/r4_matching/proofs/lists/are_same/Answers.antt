use Rattle.std.proofs.Common.{rules, ◌<◌, IsTrue, length, subst, sym, ◌∙◌}
use Rattle.std.specs.Arc.{arc_value}
use Rattle.r4_matching.proofs.ListLaws.{same_there}
use Rattle.r4_matching.proofs.lists.are_same.Goals as goal

pub returns-then-not-is_same : goal.returns-then-not-is_same
returns-then-not-is_same c =
    let xs = c.as_slice-cells.result.now in
    let ys = c.as_slice-others.result.now in
    let less : c.loop-i.i < length ys = search rules in (
      λ h. search rules,
      λ e. subst IsTrue c.if-not-is_same.true (c.is_same.ensures.1 (c.deref.ensures
          ∙ (same_there (λ it. arc_value it) xs ys c.loop-i.i c.index-cells-i.result c.index-others-i.result
          c.loop-i-test.true less c.index-cells-i.is c.index-others-i.is
          (c.as_slice-cells.ensures ∙ (e ∙ sym c.as_slice-others.ensures))
          ∙ sym c.deref-in-loop-i.ensures))),
    )
