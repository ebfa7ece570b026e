-- What the nodes of a tree hold, without the bytes of files (docs/check.md, "Objects").
use Rattle.std.specs.Prelude.{ℕ, Option, Some, None, ◌-◌, ◌^◌, min, List, [], ◌∷◌, Bool, true, false, ◌==◌, ◌&&◌, if◌then◌else◌, length, map, slice_index}
use Rattle.std.specs.List.{flat_map}
use Rattle.r4_base.specs.Cell.{is_dir, is_extent, is_pointer, is_stat}
use Rattle.r4_base.specs.Dir.{Entry as DirEntry, entries_of}
use Rattle.r4_base.specs.Extents.{blocks_in, units_of}
use Rattle.r4_base.specs.Key.{minor_of, offset_of}
use Rattle.r4_base.specs.Name.{dir_of_key}
use Rattle.r4_base.specs.Node.{Item, items_of}
use Rattle.r4_base.specs.Stat.{attr_of}
use Rattle.r4_base.specs.Tree.{Node}
use Rattle.r4_base.specs.Value.{Value}
use Rattle.r4_base.specs.Volume.{is_directory}
use Rattle.r4_base.specs.declared.items.Attr.{Attr}
use Rattle.r4_base.specs.declared.key.Key.{Key}
use Rattle.r4_check_objects.specs.declared.held.Facts.{Facts}
use Rattle.r4_check_objects.specs.declared.held.Held.{Held}
use Rattle.r4_check_objects.specs.declared.held.Thing.{Thing}
use Rattle.r4_check_objects.specs.declared.held.Thing.TheVariants.{Stat, Entry, Tail, Extent}

-- what is read of stat data
abbrev pub facts_of : Attr → Facts
facts_of a = record { directory = is_directory a; nlink = a.nlink; size = a.size; bytes = a.bytes }

abbrev pub held_at : (block : ℕ) → Key → Thing → Held
held_at b k t = record { block = b; key = k; thing = t }

abbrev pub held_entry : (block : ℕ) → DirEntry → Held
held_entry b e = held_at b e.key (Entry e.target)

-- a number as it is counted: counts stand still at 2^64 - 1
abbrev pub counted : ℕ → ℕ
counted n = min n (2 ^ 64 - 1)

-- what an item holds that has no entries: stat data or a part of a body; a pointer holds nothing
abbrev pub thing_by : Item → Option Thing
thing_by it =
    if is_stat it then Some (Stat (facts_of (attr_of it.body))) else
    if is_pointer it then None else
    if is_extent it then Some (Extent (counted (blocks_in (units_of it.body)))) else
    Some (Tail (length it.body))

abbrev pub held_one : (block : ℕ) → Key → Option Thing → List Held
held_one b k None = []
held_one b k (Some t) = held_at b k t ∷ []

-- what an item holds
unfoldable pub held_by : (block : ℕ) → Item → List Held
held_by b it = if is_dir it then map (held_entry b) (entries_of it.key it.body) else held_one b it.key (thing_by it)

-- what the items of a node hold, in order; a data block, at level 0, has no items
abbrev pub held_in : (block : ℕ) → Node Value → List Held
held_in b c = if c.level == 0 then [] else flat_map (held_by b) (items_of c.block)

-- ---- the id under which it is counted: that of its key, and for an entry that of its directory

abbrev pub id_under : Key → Thing → ℕ
id_under k (Stat f) = slice_index k.el 2
id_under k (Entry t) = dir_of_key k
id_under k (Tail n) = slice_index k.el 2
id_under k (Extent n) = slice_index k.el 2

abbrev pub id_of : Held → ℕ
id_of h = id_under h.key h.thing

-- ---- whether its key is one that such a thing has

abbrev pub fits_key : Key → Thing → Bool
fits_key k (Stat f) = minor_of k == 1 && offset_of k == 0
fits_key k (Entry t) = minor_of k == 0
fits_key k (Tail n) = minor_of k == 4
fits_key k (Extent n) = minor_of k == 4

abbrev pub is_placed : Held → Bool
is_placed h = fits_key h.key h.thing

abbrev pub is_stat_thing : Thing → Bool
is_stat_thing (Stat f) = true
is_stat_thing (Entry t) = false
is_stat_thing (Tail n) = false
is_stat_thing (Extent n) = false

abbrev pub is_stat_data : Held → Bool
is_stat_data h = is_stat_thing h.thing
