-- Lists of entries, and bodies that lay them out (docs/layout.md, "Items").
use Rattle.std.specs.Prelude.{◌≡◌, ℕ, ◌+◌, ◌<◌, ◌≤◌, List, [], ◌∷◌, length, slice_get, slice_index, Some, None, if◌then◌else◌, sum_by}
use Rattle.r4_base.specs.declared.key.Key.{Key}
use Rattle.r4_base.specs.Key.{IsBelow}
use Rattle.r4_base.specs.Name.{dir_of_key, is_long_name, key_of_name, name_fault}
use Rattle.r4_base.specs.Dir.{Entry, entry_count, entry_edge, entry_header, entry_key_at}

-- An entry whose name is one, and whose key is its.
pub record IsLawfulEntry (e : Entry) : Type 0 where
  pub legal : name_fault e.name ≡ None
  pub key : key_of_name (dir_of_key e.key) e.name ≡ e.key

-- Each entry is in this directory.
abbrev pub AreIn : (item : Key) → List Entry → Type 0
AreIn item es = (k : ℕ) (e : Entry) → slice_get es k ≡ Some e → slice_index e.key.el 0 ≡ slice_index item.el 0

abbrev pub AreLawful : List Entry → Type 0
AreLawful es = (k : ℕ) (e : Entry) → slice_get es k ≡ Some e → IsLawfulEntry e

-- Each key is above the one before it.
abbrev pub EntriesRise : List Entry → Type 0
EntriesRise es = (k : ℕ) (x y : Entry) → slice_get es k ≡ Some x → slice_get es (k + 1) ≡ Some y → IsBelow x.key y.key

-- how many bytes an entry's body has: a target, and for a long name its bytes and a zero
abbrev pub body_room : Entry → ℕ
body_room e = if is_long_name e.name then 24 + (length e.name + 1) else 24

-- how many bytes a list of entries takes: a count, and for each a header and a body; an empty one none
unfoldable pub entries_room : List Entry → ℕ
entries_room [] = 0
entries_room (e ∷ es) = 2 + sum_by (λ (x : Entry). 26 + body_room x) (e ∷ es)

-- the key of the first entry of a body, in the directory of this key
abbrev pub first_key : (dir : Key) → List ℕ → Key
first_key dir b = entry_key_at dir b 0

-- A body whose entries begin behind the headers and follow one another, also where there is none.
pub record IsLaid (b : List ℕ) : Type 0 where
  pub two : 2 ≤ length b
  pub first : entry_edge b 0 ≡ entry_header (entry_count b)
  pub steps : (k : ℕ) → k < entry_count b → entry_edge b k + 24 ≤ entry_edge b (k + 1)
