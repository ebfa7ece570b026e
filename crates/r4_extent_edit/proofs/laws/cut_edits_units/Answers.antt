use Rattle.r4_extent_edit.proofs.CutEffect.{cut_told}
use Rattle.r4_extent_edit.proofs.laws.cut_edits_units.Goals as goal

pub returns : goal.returns
returns c = cut_told
