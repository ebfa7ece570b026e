-- Parts of what was seen, as pairs of keys and values. A key is its rank.
use Rattle.std.specs.Prelude.{◌≡◌, ◌≢◌, List, [], ◌∷◌, ◌++◌, All}
use Rattle.std.specs.List.{flat_map}
use Rattle.r4_base.specs.Cell.{entry_unit}
use Rattle.r4_base.specs.Dir.{Entry}
use Rattle.r4_content.specs.Edited.{Pairs}
use Rattle.r4_content.specs.Held.{part_pairs}
use Rattle.r4_content.specs.declared.seen.SeenPart.{SeenPart}

-- what the parts have, as pairs
abbrev pub all_pairs : List SeenPart → Pairs
all_pairs parts = flat_map part_pairs parts

-- each part has a pair
abbrev pub AreFull : List SeenPart → Type 0
AreFull parts = All (λ p. part_pairs p ≢ []) parts

-- More parts stand behind those that were there, and have these pairs.
pub record Adds (old : List SeenPart) (pairs : Pairs) (new : List SeenPart) : Type 0 where
  pub pairs_are : all_pairs new ≡ all_pairs old ++ pairs
  pub full : AreFull old → AreFull new

abbrev pub entry_pair : Entry → Pairs
entry_pair e = entry_unit e ∷ []
