-- Directory items: what a body says, and its first fault where it says nothing (docs/layout.md, "Items").
use Rattle.std.specs.Prelude.{ℕ, zero, suc, ◌+◌, ◌-◌, ◌*◌, List, [], ◌∷◌, length, slice_index, slice_range, Bool, true, not, ◌&&◌, Option, Some, None, nat_lt, nat_le, ◌==◌, if◌then◌else◌}
use Rattle.std.specs.Option.{is_none, option_or}
use Rattle.r4_base.specs.Bytes.{number_at}
use Rattle.r4_base.specs.Key.{rank}
use Rattle.r4_base.specs.Name.{dir_of_key, is_long_key, is_long_name, key_of_name, name_fault, short_name_in}
use Rattle.r4_base.specs.declared.key.Key.{Key}
use Rattle.r4_base.specs.declared.items.Target.{Target}
use Rattle.r4_base.specs.declared.items.DirFault.{DirFault}
use Rattle.r4_base.specs.declared.items.DirFault.TheVariants.{Count, Offset, Order, Name}

-- ---- a body: the count; for each entry a header of 26 bytes; then the entries' bodies, one after the other

abbrev pub entry_count : List ℕ → ℕ
entry_count b = number_at 2 0 b

-- where header i begins, and at i = n where n headers end
abbrev pub entry_header : ℕ → ℕ
entry_header i = 2 + 26 * i

-- the key of entry i: the item's directory, and the header's ordering, object id and offset
unfoldable pub entry_key_at : (item : Key) → List ℕ → ℕ → Key
entry_key_at item b i = record {
  el =
      slice_index item.el 0
      ∷ number_at 8 (entry_header i) b
      ∷ number_at 8 (entry_header i + 8) b
      ∷ number_at 8 (entry_header i + 16) b
      ∷ [];
}

unfoldable pub entry_offset : List ℕ → ℕ → ℕ
entry_offset b i = number_at 2 (entry_header i + 24) b

-- where the body of entry i begins, and at i = count the item's end
unfoldable pub entry_edge : List ℕ → ℕ → ℕ
entry_edge b i = if i == entry_count b then length b else entry_offset b i

unfoldable pub entry_body : List ℕ → ℕ → List ℕ
entry_body b i = slice_range b (entry_offset b i) (entry_edge b (i + 1))

-- ---- what an entry's body says, of 24 bytes, and for a long name its bytes and a zero

unfoldable pub target_of : List ℕ → Target
target_of body = record { locality = number_at 8 0 body; ordering = number_at 8 8 body; oid = record { 0 = number_at 8 16 body } }

-- the name: a long one stands in the body, a short one in the key
unfoldable pub name_of : Key → List ℕ → List ℕ
name_of k body = if is_long_key k then slice_range body 24 (length body - 1) else short_name_in k

-- ---- entries

pub record Entry : Type 0 where
  pub key : Key
  pub target : Target
  pub name : List ℕ

unfoldable pub entry_at : (item : Key) → List ℕ → ℕ → Entry
entry_at item b i = record { key = entry_key_at item b i; target = target_of (entry_body b i); name = name_of (entry_key_at item b i) (entry_body b i) }

-- n entries from entry i on
unfoldable pub entries_from : (item : Key) → (n i : ℕ) → List ℕ → List Entry
entries_from item zero i b = []
entries_from item (suc n) i b = entry_at item b i ∷ entries_from item n (i + 1) b

-- the entries of an item of this key
unfoldable pub entries_of : (item : Key) → List ℕ → List Entry
entries_of item b = entries_from item (entry_count b) 0 b

-- ---- the first fault

abbrev pub entry_count_is_good : List ℕ → Bool
entry_count_is_good b = nat_le 2 (length b) && nat_le 1 (entry_count b) && nat_le (entry_header (entry_count b)) (length b)

-- entry 0 begins behind the headers; each body ends within the item and has room for a target
abbrev pub entry_offset_is_good : List ℕ → ℕ → Bool
entry_offset_is_good b i = (if i == 0 then entry_offset b 0 == entry_header (entry_count b) else true)
    && nat_le (entry_edge b (i + 1)) (length b) && nat_le (entry_offset b i + 24) (entry_edge b (i + 1))

-- entry 0 has the item's key, each later one a key above the one before it
abbrev pub entry_order_is_good : (item : Key) → List ℕ → ℕ → Bool
entry_order_is_good item b i =
    if i == 0 then rank (entry_key_at item b 0) == rank item else
    nat_lt (rank (entry_key_at item b (i - 1))) (rank (entry_key_at item b i))

-- a body is exactly of the form of its key's name
abbrev pub entry_form_is_good : Key → List ℕ → Bool
entry_form_is_good k body =
    if is_long_key k then is_long_name (name_of k body) && nat_le 25 (length body) && slice_index body (length body - 1) == 0 else
    (length body == 24)

-- the name is one, and the key is its
abbrev pub entry_name_is_good : Key → List ℕ → Bool
entry_name_is_good k body = is_none (name_fault (name_of k body)) && rank (key_of_name (dir_of_key k) (name_of k body)) == rank k && entry_form_is_good k body

unfoldable pub entry_fault : (item : Key) → List ℕ → ℕ → Option DirFault
entry_fault item b i =
    if not (entry_offset_is_good b i) then Some (Offset i) else
    if not (entry_order_is_good item b i) then Some (Order i) else
    if not (entry_name_is_good (entry_key_at item b i) (entry_body b i)) then Some (Name i) else
    None

-- the first fault of n entries from entry i on
unfoldable pub entries_fault : (item : Key) → (n i : ℕ) → List ℕ → Option DirFault
entries_fault item zero i b = None
entries_fault item (suc n) i b = option_or (entry_fault item b i) (entries_fault item n (i + 1) b)

unfoldable pub dir_fault : (item : Key) → List ℕ → Option DirFault
dir_fault item b = if not (entry_count_is_good b) then Some Count else entries_fault item (entry_count b) 0 b
