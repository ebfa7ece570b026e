use Rattle.std.proofs.Common.{◌∙◌}
use Rattle.r4_base.specs.Key.{rank}
use Rattle.r4_extent_shrink.specs.r4_extent_growth.r4_measure.r4_cell.Seen.{node_of}
use Rattle.r4_extent_turned.proofs.Looked.{seen_clear}
use Rattle.r4_extent_turned.proofs.leaves.is_clear.Goals as goal

pub returns : goal.returns
returns c =
    let parts = c.in_ok-parts.parts in
    c.is_empty.ensures ∙ seen_clear (rank c.args.within.from) (rank c.args.within.to) (node_of c.args.leaf.now).units parts.items parts.len c.in_ok-parts.ensures.pairs c.in_ok-parts.ensures.full parts.ok.0
