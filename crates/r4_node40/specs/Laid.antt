-- How a block lays out its items, whatever their keys and plugins are, and what an edit leaves of its head.
use Rattle.std.specs.Prelude.{◌≡◌, ℕ, ◌+◌, ◌-◌, ◌*◌, ◌<◌, ◌≤◌, List, [], ◌∷◌, length, replicate, slice_get, slice_index, slice_range, slice_set, Some, ◌==◌, if◌then◌else◌}
use Rattle.r4_base.specs.Bytes.{put_all}
use Rattle.r4_base.specs.Node.{PluginsFit, KeysRise, plugin_of, count_of, start_of, free_of, magic_of, mkfs_id_of, flush_id_of, flags_of, level_of, pad_of, key_at, plugin_at, offset_at, item_flags_at, end_at, items_of}
use Rattle.r4_base.specs.declared.limits.TheConstants.{ITEM_HEADER, NODE_HEAD}

-- The place of the body of item i.
pub record IsPlaced (b : List ℕ) (i : ℕ) : Type 0 where
  pub first : i ≡ 0 → offset_at b i ≡ 28
  pub later : 0 < i → offset_at b (i - 1) < offset_at b i
  pub below : offset_at b i < start_of b

-- A block whose free space and bodies are as its header says.
pub record IsLaid (b : List ℕ) : Type 0 where
  pub whole : length b ≡ 4096
  pub low : 28 ≤ start_of b
  pub sum : start_of b + free_of b + 38 * count_of b ≡ 4096
  pub placed : (k : ℕ) → k < count_of b → IsPlaced b k

-- The magic of a node, and a level that a node may have.
pub record HasGoodHead (b : List ℕ) : Type 0 where
  pub magic : magic_of b ≡ 0x52344653
  pub plugin : plugin_of b ≡ 0
  pub level : (1 ≤ level_of b) × (level_of b ≤ 8)

-- What the reader asks of a node, but that a branch has items.
pub record IsNode (b : List ℕ) : Type 0 where
  pub laid : IsLaid b
  pub head : HasGoodHead b
  pub plugins : PluginsFit (level_of b) (items_of b)
  pub keys : KeysRise (items_of b)

-- The head but for its counts of items and bytes.
pub record SameHead (old new : List ℕ) : Type 0 where
  pub plugin : plugin_of new ≡ plugin_of old
  pub magic : magic_of new ≡ magic_of old
  pub mkfs_id : mkfs_id_of new ≡ mkfs_id_of old
  pub flush_id : flush_id_of new ≡ flush_id_of old
  pub flags : flags_of new ≡ flags_of old
  pub level : level_of new ≡ level_of old
  pub pad : pad_of new ≡ pad_of old

-- the room for headers and bodies: in a node without items all that stands behind its head
unfoldable pub room_of : List ℕ → ℕ
room_of b = if count_of b == 0 then 4068 else free_of b

-- a node without items: zeros but for the free space, where it starts, magic, mkfs_id and level
unfoldable pub fresh_node : (level mkfs_id : ℕ) → List ℕ
fresh_node level mkfs_id = slice_set (put_all ((2, 4068) ∷ (2, 28) ∷ (4, 0x52344653) ∷ (4, mkfs_id) ∷ []) 4 (replicate 4096 0)) 26 level

-- What a node without items says.
pub record IsFresh (b : List ℕ) (level mkfs_id : ℕ) : Type 0 where
  pub laid : IsLaid b
  pub head : HasGoodHead b
  pub count : count_of b ≡ 0
  pub items : items_of b ≡ []
  pub room : room_of b ≡ 4068
  pub level_is : level_of b ≡ level
  pub mkfs_id_is : mkfs_id_of b ≡ mkfs_id
  -- all else is zero
  pub flush_id_is : flush_id_of b ≡ 0
  pub flags_is : flags_of b ≡ 0
  pub pad_is : pad_of b ≡ 0
  pub blank : (p : ℕ) → NODE_HEAD ≤ p → slice_index b p ≡ 0

-- Item header k of one block is header m of another.
pub record SameHeader (xs ys : List ℕ) (k m : ℕ) : Type 0 where
  pub key : key_at xs k ≡ key_at ys m
  pub plugin : plugin_at xs k ≡ plugin_at ys m
  pub offset : offset_at xs k ≡ offset_at ys m
  pub flags : item_flags_at xs k ≡ item_flags_at ys m

-- The bytes of free space below the item headers are what they were.
abbrev pub KeepsFree : (old new : List ℕ) → Type 0
KeepsFree old new = (p : ℕ) → start_of new ≤ p → p + ITEM_HEADER * count_of new < 4096 → slice_index new p ≡ slice_index old p

-- the bytes from the first of body i to the last of body j
abbrev pub span_at : List ℕ → (i j : ℕ) → List ℕ
span_at b i j = slice_range b (offset_at b i) (end_at (count_of b) b j)

-- What a block is after the body of item i was written.
pub record WritesBody (b ws : List ℕ) (i : ℕ) (new : List ℕ) : Type 0 where
  pub laid : IsLaid new
  pub count : count_of new ≡ count_of b
  pub items : items_of new ≡ slice_set (items_of b) i (record { key = key_at b i; plugin = plugin_at b i; body = ws })
  pub head : SameHead b new
  pub room : room_of new ≡ room_of b
  pub flags : (k : ℕ) → k < count_of b → item_flags_at new k ≡ item_flags_at b k
  pub start : start_of new ≡ start_of b
  pub free : KeepsFree b new

-- What a block is after the bodies of the items from i to j were written, as one.
pub record WritesSpan (b ws : List ℕ) (i j : ℕ) (new : List ℕ) : Type 0 where
  pub laid : IsLaid new
  pub count : count_of new ≡ count_of b
  pub before : (k : ℕ) → k < i → slice_get (items_of new) k ≡ slice_get (items_of b) k
  pub inside : (k : ℕ) → i ≤ k → k ≤ j → slice_get (items_of new) k
      ≡ Some (record { key = key_at b k; plugin = plugin_at b k; body = slice_range ws (offset_at b k - offset_at b i) (end_at (count_of b) b k - offset_at b i) })
  pub after : (k : ℕ) → j < k → k < count_of b → slice_get (items_of new) k ≡ slice_get (items_of b) k
  pub head : SameHead b new
  pub room : room_of new ≡ room_of b
  pub flags : (k : ℕ) → k < count_of b → item_flags_at new k ≡ item_flags_at b k
  pub start : start_of new ≡ start_of b
  pub free : KeepsFree b new
