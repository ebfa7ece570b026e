-- Cells with the leftmost numbers of others.
use Rattle.std.proofs.Common.{◌≡◌, ◌∙◌, ℕ, List, [], ◌∷◌, length, refl, ap, arith, sym}
use Rattle.r4_base.specs.declared.key.Key.{Key}
use Rattle.r4_base.specs.declared.things.NodeId.{NodeId}
use Rattle.r4_cell.specs.Seen.{CellSeen}
use Rattle.r4_patch.specs.Joining.{ids_of}
use Rattle.r4_path.proofs.Upwards.{long_ids}
use Rattle.r4_squeeze.specs.Packing.{cells_filled, numbers}
use Rattle.r4_squeeze.specs.declared.filled.Filled.{Filled}

pub none_filled : (level : ℕ) (ids : List ℕ) (hi : Key) → cells_filled level ids hi [] ≡ []
none_filled level [] hi = refl
none_filled level (i ∷ ids) hi = refl

pub none_at_all : (level : ℕ) (ids : List ℕ) (hi : Key) (xs : List Filled) → length xs ≡ 0 → cells_filled level ids hi xs ≡ []
none_at_all level ids hi [] e = none_filled level ids hi
none_at_all level ids hi (x ∷ xs) e = absurd (omega (arith, e))

-- there are as many numbers as cells that have them
pub long_numbers : (ids : List NodeId) → length (numbers ids) ≡ length ids
long_numbers [] = refl
long_numbers (i ∷ ids) = let h = long_numbers ids in omega (arith, h)

pub many_numbers : (ids : List NodeId) (cells : List CellSeen) → numbers ids ≡ ids_of cells → length ids ≡ length cells
many_numbers ids cells e = sym (long_numbers ids) ∙ (ap length e ∙ long_ids cells)
