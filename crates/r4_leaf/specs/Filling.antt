-- A leaf that is filled piece by piece (docs/volume.md, "Leaves").
use Rattle.std.specs.Prelude.{◌≡◌, ◌⊎◌, ℕ, ◌+◌, ◌-◌, ◌<◌, ◌≤◌, List, [], ◌∷◌, ◌++◌, length, take, slice_get, slice_index, Option, Some, None, Bool, true, false, ◌==◌, if◌then◌else◌}
use Rattle.r4_base.specs.Cell.{units_in}
use Rattle.r4_base.specs.Dir.{Entry as DirEntry, dir_fault, entries_of}
use Rattle.r4_base.specs.Key.{IsBelow, IsKey, rank}
use Rattle.r4_base.specs.Name.{is_long_name}
use Rattle.r4_base.specs.Node.{Item, count_of, items_of, level_of, mkfs_id_of}
use Rattle.r4_base.specs.declared.key.Key.{Key}
use Rattle.r4_node40.specs.Edits.{GoesBetween}
use Rattle.r4_node40.specs.Laid.{IsLaid, IsNode, WritesBody, room_of, span_at}
use Rattle.r4_leaf.specs.Items.{Lie}
use Rattle.r4_leaf.specs.Units.{LeafUnit, entry_bytes, leaf_bytes, unit_bytes}

-- The leaf has these units, from one key up to another, and so much room is left.
pub record IsFilled (lo to : ℕ) (us : List LeafUnit) (b : List ℕ) : Type 0 where
  pub node : IsNode b
  pub level : level_of b ≡ 1
  pub lie : Lie lo to (items_of b)
  pub units : units_in (items_of b) ≡ us
  pub room : room_of b + leaf_bytes us ≡ 4068

-- the last unit, if there is one
abbrev pub last_of : List LeafUnit → Option LeafUnit
last_of us = slice_get us (length us - 1)

-- The units are put behind those that the leaf has, and its mkfs_id stays.
pub record Puts (from to : ℕ) (vs : List LeafUnit) (old new : List ℕ) : Type 0 where
  pub filled : (lo mid : ℕ) (us : List LeafUnit) → IsFilled lo mid us old → mid ≤ from → IsFilled lo to (us ++ vs) new
  pub mkfs_id : (lo mid : ℕ) (us : List LeafUnit) → IsFilled lo mid us old → mid ≤ from → mkfs_id_of new ≡ mkfs_id_of old

-- The leaf has no room for the unit.
pub record IsFullFor (u : LeafUnit) (b : List ℕ) : Type 0 where
  pub full : (lo mid : ℕ) (us : List LeafUnit) → IsFilled lo mid us b → 4068 < leaf_bytes us + unit_bytes (last_of us) u

-- ---- the item that takes a piece: the last one, or one more

-- The item stands last at its place; one without a body is yet to be put in there.
pub record IsPlace (b : List ℕ) (i : ℕ) (it : Item) : Type 0 where
  pub node : IsNode b
  pub level : level_of b ≡ 1
  pub plugin : (it.plugin ≡ 0) ⊎ ((it.plugin ≡ 2) ⊎ (it.plugin ≡ 6))
  pub new : length it.body ≡ 0 → (i ≡ count_of b) × GoesBetween (items_of b) i it.key
  pub old : 1 ≤ length it.body → (i + 1 ≡ count_of b) × (slice_get (items_of b) i ≡ Some it)

-- how many bytes an item needs where so many come behind its body
abbrev pub need : Item → ℕ → ℕ
need it more = more + (if length it.body == 0 then 38 else 0)

-- The last item has this body, and the other items and the mkfs_id are as before.
pub record Holds (old : List ℕ) (i : ℕ) (it : Item) (ws new : List ℕ) : Type 0 where
  pub node : IsNode new
  pub level : level_of new ≡ 1
  pub items : items_of new ≡ take i (items_of old) ++ (record { key = it.key; plugin = it.plugin; body = ws }) ∷ []
  pub room : room_of new + need it (length ws) ≡ room_of old + length it.body
  pub mkfs_id : mkfs_id_of new ≡ mkfs_id_of old

-- The body of the last item has been made longer by so many bytes, which are to be written.
pub record Opens (old : List ℕ) (i : ℕ) (it : Item) (more : ℕ) (new : List ℕ) : Type 0 where
  pub laid : IsLaid new
  pub within : i < count_of new
  pub long : length (span_at new i i) ≡ length it.body + more
  pub keeps : take (length it.body) (span_at new i i) ≡ it.body
  pub written : (ws c : List ℕ) → length ws ≡ length it.body + more → WritesBody new ws i c → Holds old i it ws c

-- ---- where a piece goes

-- a piece at the key goes behind what the item has: the next byte of a tail, or an entry of the same directory
abbrev pub continues_item : Item → Key → (plugin : ℕ) → Bool
continues_item it key plugin =
    if it.plugin == plugin then
    (if plugin == 6 then rank it.key + length it.body == rank key else
    (if plugin == 2 then slice_index it.key.el 0 == slice_index key.el 0 else false)) else
    false

-- The place for a piece: at the last item, if the piece goes behind what that one has, and else behind it.
pub record IsPlaceFor (b : List ℕ) (key : Key) (plugin item used : ℕ) : Type 0 where
  pub new : used ≡ 0 → (item ≡ count_of b) × ((it : Item) → slice_get (items_of b) (count_of b - 1) ≡ Some it → continues_item it key plugin ≡ false)
  pub old : 1 ≤ used → (it : Item) × (item + 1 ≡ count_of b) × (slice_get (items_of b) item ≡ Some it) × (length it.body ≡ used) × (continues_item it key plugin ≡ true)

-- ---- entries

-- a long name, as bytes of an entry's body
abbrev pub long_of : List ℕ → Option (List ℕ)
long_of s = if is_long_name s then Some s else None

-- by how much an item's body grows where an entry comes: its header and body, and for the first one a count
abbrev pub entry_need : (used : ℕ) → DirEntry → ℕ
entry_need used e = (if used == 0 then 2 else 0) + (26 + entry_bytes e.name)

-- The item may have the entry as its last one, behind `at` others.
pub record Receives (it : Item) (used at : ℕ) (e : DirEntry) : Type 0 where
  pub long : length it.body ≡ used
  pub new : used ≡ 0 → it.key ≡ e.key
  pub key : IsKey it.key
  pub same : slice_index it.key.el 0 ≡ slice_index e.key.el 0
  pub good : 1 ≤ used → dir_fault it.key it.body ≡ None
  pub count : at ≡ length (entries_of it.key it.body)
  pub above : (k : ℕ) (x : DirEntry) → k + 1 ≡ at → slice_get (entries_of it.key it.body) k ≡ Some x → IsBelow x.key e.key

-- The same of an item at its place.
pub record TakesEntry (b : List ℕ) (i used at : ℕ) (it : Item) (e : DirEntry) : Type 0 where
  pub place : IsPlace b i it
  pub plugin : it.plugin ≡ 2
  pub receives : Receives it used at e

-- The body has the item's entries and this one behind them.
pub record HasEntry (it : Item) (e : DirEntry) (ws : List ℕ) : Type 0 where
  pub good : dir_fault it.key ws ≡ None
  pub entries : entries_of it.key ws ≡ entries_of it.key it.body ++ e ∷ []
  pub long : length ws ≡ length it.body + entry_need (length it.body) e
