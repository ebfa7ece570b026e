-- Items that may stand in a twig, one after the other (docs/volume.md, "Cells").
use Rattle.std.specs.Prelude.{◌≡◌, ◌⊎◌, ℕ, ◌^◌, ◌≤◌, List, [], ◌∷◌, length, true, None}
use Rattle.r4_base.specs.Cell.{item_body_fault, item_end, offsets_fit}
use Rattle.r4_base.specs.Key.{IsKey, rank}
use Rattle.r4_base.specs.Node.{Item}

-- An item of a twig that has no fault.
pub record IsSoundItem (it : Item) : Type 0 where
  pub plugin : (it.plugin ≡ 3) ⊎ (it.plugin ≡ 5)
  pub body : item_body_fault true (2 ^ 64) it ≡ None
  pub fits : offsets_fit it ≡ true
  pub key : IsKey it.key
  pub short : length it.body ≤ 4096

-- Such items from one key up to another, each behind the one before it.
abbrev pub Lie : (from to : ℕ) → List Item → Type 0
Lie from to [] = from ≤ to
Lie from to (x ∷ xs) = (from ≤ rank x.key) × IsSoundItem x × Lie (item_end x) to xs
