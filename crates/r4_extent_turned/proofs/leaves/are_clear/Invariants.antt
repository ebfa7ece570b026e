use Rattle.std.proofs.Common.{◌≡◌, ◌+◌, drop, map}
use Rattle.std.specs.Arc.{arc_value}
use Rattle.std.specs.List.{list_all}
use Rattle.r4_extent_shrink.specs.r4_extent_growth.r4_extent_build.Growing.{end_after}
use Rattle.r4_extent_shrink.specs.r4_extent_growth.r4_measure.r4_reach.Touched.{first_byte}
use Rattle.r4_extent_turned.specs.Suiting.{is_clear}
use Rattle.r4_extent_turned.proofs.leaves.are_clear.Given as goal

abbrev pub invariant-loop-leaf : goal.invariant-loop-leaf
invariant-loop-leaf l = list_all (is_clear (first_byte l.fn.body + l.fn.body.was) (end_after l.fn.body)) (map (λ c. arc_value c) l.fn.leaves)
    ≡ list_all (is_clear (first_byte l.fn.body + l.fn.body.was) (end_after l.fn.body)) (map (λ c. arc_value c) (drop l.leaf-index l.fn.leaves))
