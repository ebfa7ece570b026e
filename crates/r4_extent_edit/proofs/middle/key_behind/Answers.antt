use Rattle.std.proofs.Common.{ap, ◌∙◌}
use Rattle.r4_base.specs.Key.{rank}
use Rattle.r4_extent_edit.proofs.TurnEnds.{last_piece}
use Rattle.r4_extent_edit.proofs.middle.key_behind.Goals as goal

pub returns : goal.returns
returns c to ends = ap rank c.behind.ensures ∙ last_piece to c.args.extent.now _ c.in-Blocks.unit ends c.in-Blocks.is
