-- Edits of a body of entries, in its first bytes.
use Rattle.std.specs.Prelude.{◌≡◌, ◌⊎◌, ℕ, ◌+◌, ◌-◌, ◌<◌, ◌≤◌, List, [], ◌∷◌, ◌++◌, length, take, slice_get, slice_index, Option, Some, None, if◌then◌else◌, ◌==◌}
use Rattle.r4_base.specs.declared.key.Key.{Key}
use Rattle.r4_base.specs.declared.items.Target.{Target}
use Rattle.r4_base.specs.Bytes.{fields_bytes}
use Rattle.r4_base.specs.Key.{IsBelow}
use Rattle.r4_base.specs.Name.{short_name_in}
use Rattle.r4_base.specs.Dir.{Entry, dir_fault, entries_of, entry_count, entry_edge, entry_header, entry_key_at, entry_offset}
use Rattle.r4_base.specs.Entries.{IsLaid, first_key}

-- A body that the reader accepts under some key.
pub record IsDirBody (b : List ℕ) : Type 0 where
  pub key : Key
  pub accepted : dir_fault key b ≡ None

-- A body that the reader accepts under the key of its first entry, in the directory of this key, or that has no entry.
abbrev pub IsAcceptedOrEmpty : (dir : Key) → List ℕ → Type 0
IsAcceptedOrEmpty dir b = (length b ≡ 0) ⊎ (dir_fault (first_key dir b) b ≡ None)

-- ---- an entry that is given: a long name as bytes, a short one by its key

abbrev pub given_name : Key → Option (List ℕ) → List ℕ
given_name k None = short_name_in k
given_name k (Some s) = s

abbrev pub given_entry : Key → Target → Option (List ℕ) → Entry
given_entry k t long = record { key = k; target = t; name = given_name k long }

-- how many bytes its body has
abbrev pub given_room : Option (List ℕ) → ℕ
given_room None = 24
given_room (Some s) = 24 + (length s + 1)

-- the used length once the entry has been put in
abbrev pub used_with : (used : ℕ) → Option (List ℕ) → ℕ
used_with used long = (if used == 0 then 2 else used) + 26 + given_room long

-- A key that is above the one before place `at` and below the one that stands there.
pub record GoesBetween (es : List Entry) (at : ℕ) (key : Key) : Type 0 where
  pub above : (k : ℕ) (x : Entry) → k + 1 ≡ at → slice_get es k ≡ Some x → IsBelow x.key key
  pub below : (y : Entry) → slice_get es at ≡ Some y → IsBelow key y.key

-- ---- what is written

abbrev pub header_fields : Key → (offset : ℕ) → List (ℕ × ℕ)
header_fields k offset = (8, slice_index k.el 1) ∷ (8, slice_index k.el 2) ∷ (8, slice_index k.el 3) ∷ (2, offset) ∷ []

abbrev pub target_fields : Target → List (ℕ × ℕ)
target_fields t = (8, t.locality) ∷ (8, t.ordering) ∷ (8, t.oid.0) ∷ []

-- the body of an entry that is given
abbrev pub given_body : Target → Option (List ℕ) → List ℕ
given_body t None = fields_bytes (target_fields t)
given_body t (Some s) = fields_bytes (target_fields t) ++ (s ++ 0 ∷ [])

-- A body with a count, also where there was none.
pub record IsBegun (dir : Key) (used : ℕ) (b : List ℕ) (u : ℕ) (c : List ℕ) : Type 0 where
  pub used_is : u ≡ (if used == 0 then 2 else used)
  pub whole : length c ≡ length b
  pub laid : IsLaid (take u c)
  pub entries : (item : Key) → entries_of item (take u c) ≡ entries_of item (take used b)
  pub accepted : (entry_count (take u c) ≡ 0) ⊎ (dir_fault (first_key dir (take u c)) (take u c) ≡ None)
  pub rest : (k : ℕ) → u ≤ k → slice_index c k ≡ slice_index b k

-- ---- a part of the entries as a body of its own

-- how many bytes the entries from one place up to another take: a count, and their headers and bodies
abbrev pub part_room : List ℕ → (first end : ℕ) → ℕ
part_room b first end = entry_header (end - first) + (entry_edge b end - entry_edge b first)

-- The first u bytes are the entries from one place up to another of a body.
pub record IsPart (b : List ℕ) (first end u : ℕ) (c : List ℕ) : Type 0 where
  pub used_is : u ≡ part_room b first end
  pub room : u ≤ length c
  pub count : entry_count c ≡ end - first
  pub keys : (item : Key) (k : ℕ) → first + k < end → entry_key_at item c k ≡ entry_key_at item b (first + k)
  pub offsets : (k : ℕ) → first + k < end → entry_offset c k + entry_edge b first ≡ entry_offset b (first + k) + entry_header (end - first)
  pub bodies : (p q : ℕ) → entry_edge b first ≤ q → q < entry_edge b end → p + entry_edge b first ≡ q + entry_header (end - first) → slice_index c p ≡ slice_index b q
