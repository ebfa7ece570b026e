-- Contents of single keys that rise.
use Rattle.std.specs.Prelude.{ℕ, List, [], ◌∷◌, Bool, true, false, ◌&&◌, nat_lt}
use Rattle.std.specs.List.{list_all}
use Rattle.r4_base.specs.Key.{rank}
use Rattle.r4_content.specs.declared.seen.SeenPart.{SeenPart}
use Rattle.r4_content.specs.declared.seen.SeenPart.TheVariants.{One, Run}

-- a part is one key, which is greater than this one
abbrev pub is_behind : (key : ℕ) → SeenPart → Bool
is_behind k (One key v) = nat_lt k (rank key)
is_behind k (Run r) = false

-- a part is one key, and all others are behind it
abbrev pub is_least : SeenPart → List SeenPart → Bool
is_least (One key v) parts = list_all (is_behind (rank key)) parts
is_least (Run r) parts = false

-- each part is one key, greater than those before
abbrev pub is_rising : List SeenPart → Bool
is_rising [] = true
is_rising (p ∷ parts) = is_least p parts && is_rising parts
