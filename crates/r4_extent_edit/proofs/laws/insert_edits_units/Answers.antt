use Rattle.r4_extent_edit.proofs.ApartEffect.{apart_told}
use Rattle.r4_extent_edit.proofs.OverEffect.{over_told}
use Rattle.r4_extent_edit.proofs.PutEffect.{spread_told}
use Rattle.r4_extent_edit.proofs.laws.insert_edits_units.Goals as goal

pub returns : goal.returns
returns c = record { spread = spread_told; over = over_told; apart = apart_told }
