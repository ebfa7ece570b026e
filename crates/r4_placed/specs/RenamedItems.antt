-- The items of a cell's block, when what they name gets other names (docs/durable.md).
use Rattle.std.specs.Prelude.{◌≡◌, ℕ, ◌+◌, ◌<◌, List, [], ◌∷◌, true, false}
use Rattle.std.specs.Option.{option_map}
use Rattle.r4_base.specs.Cell.{is_extent, is_pointer}
use Rattle.r4_base.specs.Extents.{is_hole, pointer_of, units_of}
use Rattle.r4_base.specs.Node.{Item}
use Rattle.r4_base.specs.declared.items.Unit.{Unit as ExtentUnit}

-- A unit of as many blocks, a hole where it was one, whose blocks are the old ones under their new names.
pub record IsUnitRenamed (f : ℕ → ℕ) (u v : ExtentUnit) : Type 0 where
  pub width : v.width ≡ u.width
  pub hole : is_hole v ≡ is_hole u
  pub blocks : (k : ℕ) → k < u.width → is_hole u ≡ false → v.start + k ≡ f (u.start + k)

abbrev pub AreUnitsRenamed : (ℕ → ℕ) → List ExtentUnit → List ExtentUnit → Type 0
AreUnitsRenamed f [] [] = Unit {0}
AreUnitsRenamed f [] (v ∷ vs) = ⊥
AreUnitsRenamed f (u ∷ us) [] = ⊥
AreUnitsRenamed f (u ∷ us) (v ∷ vs) = IsUnitRenamed f u v × AreUnitsRenamed f us vs

-- The same key and plugin; a pointer names the same node under its new name, an extent's units are renamed, and every
-- other body stays.
pub record IsItemRenamed (f : ℕ → ℕ) (x y : Item) : Type 0 where
  pub key : y.key ≡ x.key
  pub plugin : y.plugin ≡ x.plugin
  pub pointer : is_pointer x ≡ true → pointer_of y.body ≡ option_map f (pointer_of x.body)
  pub extent : is_extent x ≡ true → AreUnitsRenamed f (units_of x.body) (units_of y.body)
  pub other : is_pointer x ≡ false → is_extent x ≡ false → y.body ≡ x.body

abbrev pub AreItemsRenamed : (ℕ → ℕ) → List Item → List Item → Type 0
AreItemsRenamed f [] [] = Unit {0}
AreItemsRenamed f [] (y ∷ ys) = ⊥
AreItemsRenamed f (x ∷ xs) [] = ⊥
AreItemsRenamed f (x ∷ xs) (y ∷ ys) = IsItemRenamed f x y × AreItemsRenamed f xs ys
