-- The units of a leaf in their order, what edits make of them, and the bytes that they take up (docs/volume.md, "Leaves").
use Rattle.std.specs.Prelude.{◌≡◌, ℕ, ◌+◌, ◌/◌, ◌^◌, ◌==◌, List, [], ◌∷◌, length, Bool, false, not, ◌&&◌, Option, Some, None, slice_get, nat_le, nat_lt, if◌then◌else◌}
use Rattle.std.specs.List.{filter}
use Rattle.r4_base.specs.Key.{IsKey, rank}
use Rattle.r4_base.specs.Name.{is_long_name}
use Rattle.r4_base.specs.Value.{Value, Stat, Entry, Byte}
use Rattle.r4_base.specs.declared.key.Key.{Key}

-- a key, by its rank, with its value
abbrev pub LeafUnit : Type 0
LeafUnit = ℕ × Value

-- ---- a sorted list's changes

-- the unit put where its key belongs
abbrev pub put_unit : LeafUnit → List LeafUnit → List LeafUnit
put_unit u [] = u ∷ []
put_unit u (x ∷ xs) = if nat_lt u.0 x.0 then u ∷ (x ∷ xs) else x ∷ put_unit u xs

-- each of the first list's units put where its key belongs among those of the second
abbrev pub put_units : List LeafUnit → List LeafUnit → List LeafUnit
put_units [] us = us
put_units (g ∷ gs) us = put_unit g (put_units gs us)

-- the key is from one on, and below another
abbrev pub is_between : (from to k : ℕ) → Bool
is_between from to k = nat_le from k && nat_lt k to

-- the units but those whose keys are from one on and below another
abbrev pub cut_units : (from to : ℕ) → List LeafUnit → List LeafUnit
cut_units from to us = filter (λ u. not (is_between from to u.0)) us

-- ---- where a list is parted

-- The key is that of the unit before which are half of all, rounded down.
pub record IsMiddle (us : List LeafUnit) (k : Key) : Type 0 where
  pub key : IsKey k
  pub value : Value
  pub unit : slice_get us (length us / 2) ≡ Some (rank k, value)

-- ---- the bytes that units take up in a leaf

-- it is the next byte of the same file
abbrev pub continues_tail : Option LeafUnit → ℕ → Bool
continues_tail (Some (j, Byte x)) k = j + 1 == k
continues_tail before k = false

-- it is an entry of the same directory
abbrev pub continues_entries : Option LeafUnit → ℕ → Bool
continues_entries (Some (j, Entry name target)) k = j / 2 ^ 192 == k / 2 ^ 192
continues_entries before k = false

-- how many bytes the body of an entry has: a target, and for a long name its bytes and a zero
abbrev pub entry_bytes : List ℕ → ℕ
entry_bytes name = if is_long_name name then 24 + (length name + 1) else 24

-- how many bytes a unit takes up behind another one: as one more of its item, or with an item's header, for entries also a count
unfoldable pub unit_bytes : (before : Option LeafUnit) → LeafUnit → ℕ
unit_bytes before (k, Stat a) = 38 + 44
unit_bytes before (k, Entry name target) = 26 + entry_bytes name + (if continues_entries before k then 0 else 38 + 2)
unit_bytes before (k, Byte x) = 1 + (if continues_tail before k then 0 else 38)

unfoldable pub bytes_behind : (before : Option LeafUnit) → List LeafUnit → ℕ
bytes_behind before [] = 0
bytes_behind before (u ∷ us) = unit_bytes before u + bytes_behind (Some u) us

-- the bytes of a leaf's items and headers; a leaf has room for 4068
abbrev pub leaf_bytes : List LeafUnit → ℕ
leaf_bytes us = bytes_behind None us
