-- What the edits of a block do to its list of items.
use Rattle.std.specs.Prelude.{◌≡◌, ℕ, ◌+◌, ◌-◌, ◌<◌, ◌≤◌, List, [], ◌∷◌, ◌++◌, length, take, replicate, remove, slice_get, slice_index, slice_set, Some}
use Rattle.std.specs.List.{insert}
use Rattle.r4_base.specs.Key.{IsBelow}
use Rattle.r4_base.specs.declared.key.Key.{Key}
use Rattle.r4_base.specs.Node.{Item, count_of, key_at, plugin_at, offset_at, item_flags_at, end_at, items_of}
use Rattle.r4_node40.specs.Laid.{IsLaid, KeepsFree, SameHead, room_of, span_at}

-- Item i is taken away.
pub record RemovesItem (old : List ℕ) (i : ℕ) (new : List ℕ) : Type 0 where
  pub laid : IsLaid new
  pub count : count_of new + 1 ≡ count_of old
  pub items : items_of new ≡ remove (items_of old) i
  pub head : SameHead old new
  pub room : room_of new + offset_at old i ≡ room_of old + end_at (count_of old) old i + 38
  pub flags_before : (k : ℕ) → k < i → item_flags_at new k ≡ item_flags_at old k
  pub flags_behind : (k : ℕ) → i ≤ k → k + 1 < count_of old → item_flags_at new k ≡ item_flags_at old (k + 1)

-- An item with a body of zeros is put in as item i.
pub record InsertsItem (old : List ℕ) (i : ℕ) (key : Key) (plugin len : ℕ) (new : List ℕ) : Type 0 where
  pub laid : IsLaid new
  pub count : count_of new ≡ count_of old + 1
  pub items : items_of new ≡ insert (items_of old) i (record { key = key; plugin = plugin; body = replicate len 0 })
  pub head : SameHead old new
  pub room : room_of new + len + 38 ≡ room_of old
  pub flags : item_flags_at new i ≡ 0
  pub flags_before : (k : ℕ) → k < i → item_flags_at new k ≡ item_flags_at old k
  pub flags_behind : (k : ℕ) → i ≤ k → k < count_of old → item_flags_at new (k + 1) ≡ item_flags_at old k
  pub free : KeepsFree old new

-- a body that is cut, or made longer by zeros
abbrev pub resized : List ℕ → ℕ → List ℕ
resized body len = take len body ++ replicate (len - length body) 0

-- by how much a body of `len` bytes is longer than that of item i
abbrev pub growth : List ℕ → (i len : ℕ) → ℕ
growth b i len = len - (end_at (count_of b) b i - offset_at b i)

-- The body of item i is cut, or made longer by zeros.
pub record ResizesItem (old : List ℕ) (i len : ℕ) (new : List ℕ) : Type 0 where
  pub laid : IsLaid new
  pub count : count_of new ≡ count_of old
  pub items : items_of new ≡ slice_set (items_of old) i (record { key = key_at old i; plugin = plugin_at old i; body = resized (span_at old i i) len })
  pub head : SameHead old new
  pub room : room_of new + len + offset_at old i ≡ room_of old + end_at (count_of old) old i
  pub flags : (k : ℕ) → k < count_of old → item_flags_at new k ≡ item_flags_at old k

-- the fields of an item header; its flags are 0
abbrev pub header_fields : Key → (offset plugin : ℕ) → List (ℕ × ℕ)
header_fields k offset plugin = (8, slice_index k.el 0) ∷ (8, slice_index k.el 1) ∷ (8, slice_index k.el 2) ∷ (8, slice_index k.el 3) ∷ (2, offset) ∷ (2, 0) ∷ (2, plugin) ∷ []

-- A key that is above the one before place i and below the one that stands there.
pub record GoesBetween (items : List Item) (i : ℕ) (key : Key) : Type 0 where
  pub above : (k : ℕ) (x : Item) → k + 1 ≡ i → slice_get items k ≡ Some x → IsBelow x.key key
  pub below : (y : Item) → slice_get items i ≡ Some y → IsBelow key y.key
