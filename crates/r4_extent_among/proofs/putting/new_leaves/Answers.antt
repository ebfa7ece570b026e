use Rattle.std.proofs.Common.{subst}
use Rattle.std.specs.Prelude.{Contains}
use Rattle.r4_build.specs.r4_leaf.declared.remaking.KeyRange.{KeyRange}
use Rattle.std.specs.Prelude.{List}
use Rattle.r4_extent_among.proofs.OneTurn.{leaf_range}
use Rattle.r4_extent_among.proofs.putting.new_leaves.Goals as goal

pub leaves_in-requires-clause-ranges : goal.leaves_in-requires-clause-ranges
leaves_in-requires-clause-ranges c = λ r at.
    leaf_range c.args.twig.now c.requires.among.sound c.requires.among.level c.requires.among.node c.in_ok-ranges.ranges.items c.in_ok-ranges.ensures r
    (subst (λ (rs : List KeyRange). Contains rs r) c.as_slice.ensures.value at)
