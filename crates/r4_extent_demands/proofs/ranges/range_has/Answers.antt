use Rattle.std.proofs.Common.{◌≡◌, sym, subst, true, ◌∙◌}
use Rattle.std.specs.Prelude.{◌↔◌}
use Rattle.r4_bodies.specs.r4_leaf_demands.Touching.{span_of}
use Rattle.r4_bodies.proofs.r4_leaf_edits.Touched.{intervals_met}
use Rattle.r4_extent_demands.specs.Ranges.{Holds}
use Rattle.r4_extent_demands.specs.declared.ranges.Way.{Way}
use Rattle.r4_extent_demands.proofs.ranges.range_has.Goals as goal

pub returns-in-Meets : goal.returns-in-Meets
returns-in-Meets c =
    let s = span_of c.args.range.now in
    let met = c.meets_intervals.ensures ∙ sym (intervals_met s.lo s.hi c.in-Meets.intervals.now) in
    subst (λ (way : Way). (c.meets_intervals.result ≡ true) ↔ Holds way s) (sym c.in-Meets.is)
    ((λ t. sym met ∙ t), (λ h. met ∙ h))
