use Rattle.r4_patch.proofs.PartCells.{apart, data_named, leaf_or_extent, named_once}
use Rattle.r4_patch.proofs.parts.part_law.Goals as goal

pub returns : goal.returns
returns c = record { apart = apart; leaf_or_extent = leaf_or_extent; data_named = data_named; named_once = named_once }
