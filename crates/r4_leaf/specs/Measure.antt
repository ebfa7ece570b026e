-- How many bytes units take up, piece by piece (docs/volume.md, "Leaves").
use Rattle.std.specs.Prelude.{◌≡◌, ℕ, ◌/◌, ◌^◌, ◌==◌, Bool, false, List, [], ◌∷◌, Option, Some}
use Rattle.r4_base.specs.Key.{rank}
use Rattle.r4_leaf.specs.Units.{LeafUnit, continues_entries, continues_tail}
use Rattle.r4_leaf.specs.declared.measuring.Tip.{Tip}
use Rattle.r4_leaf.specs.declared.measuring.Tip.TheVariants.{Directory, Tail}

-- the last of the units, or what stood before them
abbrev pub last_or : Option LeafUnit → List LeafUnit → Option LeafUnit
last_or before [] = before
last_or before (u ∷ us) = last_or (Some u) us

-- which keys of an entry, and of a byte, continue the last item
abbrev pub takes_entry : Tip → ℕ → Bool
takes_entry (Directory number) k = number == k / 2 ^ 192
takes_entry tip k = false

abbrev pub takes_byte : Tip → ℕ → Bool
takes_byte (Tail next) k = rank next == k
takes_byte tip k = false

-- It says what may continue the item of this unit, if there is one.
pub record IsTip (tip : Tip) (last : Option LeafUnit) : Type 0 where
  pub entries : (k : ℕ) → continues_entries last k ≡ takes_entry tip k
  pub bytes : (k : ℕ) → continues_tail last k ≡ takes_byte tip k
