-- What a block says as a cell, and why it may not stand as one (docs/volume.md, "Cells").
use Rattle.std.specs.Prelude.{◌≡◌, ℕ, zero, suc, ◌+◌, ◌-◌, ◌*◌, ◌^◌, List, [], ◌∷◌, ◌++◌, length, map, Bool, false, not, ◌&&◌, ◌||◌, Option, Some, None, Result, Ok, Err, nat_lt, nat_le, ◌==◌, if◌then◌else◌}
use Rattle.std.specs.Option.{option_map, option_or}
use Rattle.r4_base.specs.Bitmap.{is_fixed}
use Rattle.r4_base.specs.Key.{rank, offset_of}
use Rattle.r4_base.specs.Node.{Item, items_of, level_of, node_fault}
use Rattle.r4_base.specs.Stat.{attr_of, stat_of}
use Rattle.r4_base.specs.Dir.{Entry as DirEntry, dir_fault, entries_of, entry_count, entry_key_at}
use Rattle.r4_base.specs.Extents.{blocks_in, body_fault, is_hole, pointer_of, units_of}
use Rattle.r4_base.specs.Tree.{Name, Span, Node as Cell}
use Rattle.r4_base.specs.Value.{Value, Stat, Entry, Byte}
use Rattle.r4_base.specs.declared.items.Attr.{Attr}
use Rattle.r4_base.specs.declared.items.Unit.{Unit as ExtentUnit}
use Rattle.r4_base.specs.declared.items.StatFault.{StatFault}
use Rattle.r4_base.specs.declared.items.CellFault.{CellFault}
use Rattle.r4_base.specs.declared.items.CellFault.TheVariants.{Node, Stat as StatData, Dir, Extent, Tail, Pointer, Level, Range}
use Rattle.r4_base.specs.declared.limits.TheConstants.{TAIL_END, UNPLACED}
use Rattle.r4_base.specs.declared.plugin.TheConstants.{ENTRIES, EXTENT, POINTER, STAT}

-- ---- the item plugins; what is none of these is a tail

abbrev pub is_stat : Item → Bool
is_stat it = it.plugin == STAT

abbrev pub is_dir : Item → Bool
is_dir it = it.plugin == ENTRIES

abbrev pub is_pointer : Item → Bool
is_pointer it = it.plugin == POINTER

abbrev pub is_extent : Item → Bool
is_extent it = it.plugin == EXTENT

-- ---- the units of an item

-- the bytes of a body, the first at the key
abbrev pub bytes_from : (key : ℕ) → List ℕ → List (ℕ × Value)
bytes_from k [] = []
bytes_from k (x ∷ s) = (k, Byte x) ∷ bytes_from (k + 1) s

abbrev pub zeros_from : (key count : ℕ) → List (ℕ × Value)
zeros_from k zero = []
zeros_from k (suc n) = (k, Byte 0) ∷ zeros_from (k + 1) n

-- the zeros of an extent's holes, its first byte at the key
abbrev pub hole_bytes : (key : ℕ) → List ExtentUnit → List (ℕ × Value)
hole_bytes k [] = []
hole_bytes k (u ∷ us) = (if is_hole u then zeros_from k (4096 * u.width) else []) ++ hole_bytes (k + 4096 * u.width) us

abbrev pub entry_unit : DirEntry → ℕ × Value
entry_unit e = (rank e.key, Entry e.name e.target)

-- the units that an item has itself; those of an extent's blocks stand in the blocks
unfoldable pub item_units : Item → List (ℕ × Value)
item_units it =
    if is_stat it then (rank it.key, Stat (attr_of it.body)) ∷ [] else
    if is_dir it then map entry_unit (entries_of it.key it.body) else
    if is_pointer it then [] else
    if is_extent it then hole_bytes (rank it.key) (units_of it.body) else
    bytes_from (rank it.key) it.body

-- ---- what an item names

-- the blocks of a run, each with the keys of its bytes
abbrev pub run_names : (key start count : ℕ) → List Name
run_names k start zero = []
run_names k start (suc n) = record { id = start; level = 0; lo = k; hi = k + 4096 } ∷ run_names (k + 4096) (start + 1) n

abbrev pub block_names : (key : ℕ) → List ExtentUnit → List Name
block_names k [] = []
block_names k (u ∷ us) = (if is_hole u then [] else run_names k u.start u.width) ++ block_names (k + 4096 * u.width) us

-- a pointer's node has the keys up to the next item's
abbrev pub pointer_names : (level key next : ℕ) → Option ℕ → List Name
pointer_names level k next None = []
pointer_names level k next (Some to) = record { id = to; level = level - 1; lo = k; hi = next } ∷ []

unfoldable pub item_names : (level next : ℕ) → Item → List Name
item_names level next it =
    if is_pointer it then pointer_names level (rank it.key) next (pointer_of it.body) else
    if is_extent it then block_names (rank it.key) (units_of it.body) else
    []

-- ---- a cell

-- where the range of an item ends: at the next item's key, and for the last one where the cell's does
abbrev pub next_key : (hi : ℕ) → List Item → ℕ
next_key hi [] = hi
next_key hi (it ∷ items) = rank it.key

unfoldable pub names_in : (level hi : ℕ) → List Item → List Name
names_in level hi [] = []
names_in level hi (it ∷ items) = item_names level (next_key hi items) it ++ names_in level hi items

-- the ranges of extents
unfoldable pub spans_in : (hi : ℕ) → List Item → List Span
spans_in hi [] = []
spans_in hi (it ∷ items) = (if is_extent it then (record { lo = rank it.key; hi = next_key hi items } ∷ []) else []) ++ spans_in hi items

unfoldable pub units_in : List Item → List (ℕ × Value)
units_in [] = []
units_in (it ∷ items) = item_units it ++ units_in items

-- The cell that a block is at a level and for a range; a data block, at level 0, has no items.
unfoldable pub cell_of : (level lo hi : ℕ) → List ℕ → Cell Value
cell_of zero lo hi b = record { level = 0; lo = lo; hi = hi; block = b; names = []; spans = []; units = bytes_from lo b }
cell_of (suc l) lo hi b = record { level = suc l; lo = lo; hi = hi; block = b; names = names_in (suc l) hi (items_of b); spans = spans_in hi (items_of b); units = units_in (items_of b) }

-- ---- the first fault of a block at a level and for a range, on a volume of so many blocks. In memory a pointer and a block of an extent
-- may also be numbers from 2^63 on, of nodes and blocks that are not placed yet

abbrev pub fault_in : Result Attr StatFault → Option StatFault
fault_in (Ok a) = None
fault_in (Err e) = Some e

abbrev pub names_block : (in_memory : Bool) → (blocks : ℕ) → Option ℕ → Bool
names_block in_memory blocks None = false
names_block in_memory blocks (Some to) = in_memory && nat_le UNPLACED to || nat_lt to blocks && not (is_fixed blocks to)

-- a tail has a byte at least, and none from byte 16384 of its file on
abbrev pub is_short_tail : Item → Bool
is_short_tail it = nat_le 1 (length it.body) && nat_le (offset_of it.key + length it.body) TAIL_END

unfoldable pub item_body_fault : (in_memory : Bool) → (blocks : ℕ) → Item → Option CellFault
item_body_fault in_memory blocks it =
    if is_stat it then option_map StatData (fault_in (stat_of it.body)) else
    if is_dir it then option_map Dir (dir_fault it.key it.body) else
    if is_pointer it then (if names_block in_memory blocks (pointer_of it.body) then None else Some Pointer) else
    if is_extent it then option_map Extent (body_fault in_memory blocks it.body) else
    if is_short_tail it then None else Some Tail

-- how many bytes of a file's body an item has
abbrev pub body_bytes : Item → ℕ
body_bytes it = if is_extent it then 4096 * blocks_in (units_of it.body) else length it.body

abbrev pub last_entry_key : Item → ℕ
last_entry_key it = rank (entry_key_at it.key it.body (entry_count it.body - 1))

-- one more than the key of an item's last unit; a pointer counts as one unit
unfoldable pub item_end : Item → ℕ
item_end it =
    if is_stat it || is_pointer it then rank it.key + 1 else
    if is_dir it then last_entry_key it + 1 else
    rank it.key + body_bytes it

-- the offsets of an item's bytes are below 2^64
abbrev pub offsets_fit : Item → Bool
offsets_fit it = is_stat it || is_pointer it || is_dir it || nat_le (offset_of it.key + body_bytes it) (2 ^ 64)

-- An item's key and units lie in the range and below the next item's key; the first key of a node above leaf level begins the range.
abbrev pub range_is_good : (level lo hi next i : ℕ) → Item → Bool
range_is_good level lo hi next i it =
    nat_le lo (rank it.key) && nat_lt (rank it.key) hi && offsets_fit it && nat_le (item_end it) hi && nat_le (item_end it) next
    && (nat_le level 1 || not (i == 0) || rank it.key == lo)

-- the first fault of items, of which the first is item i
unfoldable pub items_in_fault : (in_memory : Bool) → (blocks level lo hi i : ℕ) → List Item → Option CellFault
items_in_fault in_memory blocks level lo hi i [] = None
items_in_fault in_memory blocks level lo hi i (it ∷ items) =
    option_or (item_body_fault in_memory blocks it)
    (option_or (if range_is_good level lo hi (next_key hi items) i it then None else Some (Range i))
    (items_in_fault in_memory blocks level lo hi (i + 1) items))

-- a data block is taken whatever its bytes are
unfoldable pub cell_fault : (in_memory : Bool) → (blocks level lo hi : ℕ) → List ℕ → Option CellFault
cell_fault in_memory blocks zero lo hi b = None
cell_fault in_memory blocks (suc l) lo hi b =
    option_or (option_map Node (node_fault b))
    (option_or (if level_of b == suc l then None else Some Level)
    (items_in_fault in_memory blocks (suc l) lo hi 0 (items_of b)))

-- The block is this cell: it has no fault at its level and range, on a volume of so many blocks, and says what the cell has.
pub record IsCellOf (blocks : ℕ) (b : List ℕ) (c : Cell Value) : Type 0 where
  pub sound : cell_fault false blocks c.level c.lo c.hi b ≡ None
  pub says : c ≡ cell_of c.level c.lo c.hi b
