-- The rules on objects: what is wrong with those that a tree holds (docs/check.md, "Objects"). What it holds is a list,
-- from the left.
use Rattle.std.specs.Prelude.{ℕ, zero, suc, ◌+◌, ◌*◌, List, [], ◌∷◌, ◌++◌, length, map, fold, count_by, sum_by}
use Rattle.std.specs.Prelude.{Bool, true, false, not, ◌&&◌, ◌||◌, ◌==◌, nat_le, nat_lt, if◌then◌else◌, find}
use Rattle.std.specs.Prelude.{Option, Some, None, is_some, is_none, option_and_then}
use Rattle.std.specs.BTreeSet.{insert_key}
use Rattle.std.specs.List.{flat_map, list_any}
use Rattle.std.specs.Option.{option_map, option_map_or, option_or}
use Rattle.std.specs.Ordering.{nat_cmp}
use Rattle.r4_base.specs.Key.{offset_of}
use Rattle.r4_base.specs.Volume.{blocks_for, object_of, root_object}
use Rattle.r4_base.specs.declared.items.Target.{Target}
use Rattle.r4_base.specs.declared.limits.TheConstants.{GREATEST_SIZE, SUPER_BLOCK}
use Rattle.r4_base.specs.declared.superblock.Super40.{Super40}
use Rattle.r4_check_objects.specs.Faults.{fault_at}
use Rattle.r4_check_objects.specs.Held.{id_of, is_placed, is_stat_data}
use Rattle.r4_check_objects.specs.declared.fault.Fault.{Fault}
use Rattle.r4_check_objects.specs.declared.fault.What.{What}
use Rattle.r4_check_objects.specs.declared.fault.What.TheVariants.{Size, Links, Lost, Id, Files}
use Rattle.r4_check_objects.specs.declared.held.Facts.{Facts}
use Rattle.r4_check_objects.specs.declared.held.Held.{Held}
use Rattle.r4_check_objects.specs.declared.held.Thing.{Thing}
use Rattle.r4_check_objects.specs.declared.held.Thing.TheVariants.{Stat, Entry, Tail, Extent}
use Rattle.r4_check_objects.specs.declared.sums.Part.{Part}
use Rattle.r4_check_objects.specs.declared.sums.Part.TheVariants.{Entries, Directories, Links as LinksTo, Reached, Tails, Blocks, Past, Strays}

-- ---- objects

abbrev pub is_same : Target → Target → Bool
is_same p o = p.locality == o.locality && p.ordering == o.ordering && p.oid.0 == o.oid.0

abbrev pub is_root : Target → Bool
is_root o = is_same o root_object

-- the facts of stat data that stand at a stat key
abbrev pub facts_as : (placed : Bool) → Thing → Option Facts
facts_as placed (Stat f) = if placed then Some f else None
facts_as placed (Entry t) = None
facts_as placed (Tail n) = None
facts_as placed (Extent n) = None

abbrev pub facts_in : Held → Option Facts
facts_in h = facts_as (is_placed h) h.thing

abbrev pub is_object_at : Target → Held → Bool
is_object_at o h = is_some (facts_in h) && is_same (object_of h.key) o

-- the facts of an object
unfoldable pub facts_at : List Held → Target → Option Facts
facts_at found o = option_and_then facts_in (find (is_object_at o) found)

abbrev pub is_directory_at : List Held → Target → Bool
is_directory_at found o = option_map_or (λ f. f.directory) (facts_at found o) false

-- ---- ids. The first stat data of an id are its owner's; where it has none, it begins with the first thing under it

abbrev pub is_of : (q : ℕ) → Held → Bool
is_of q h = id_of h == q

abbrev pub is_stat_of : (q : ℕ) → Held → Bool
is_stat_of q h = is_stat_data h && id_of h == q

unfoldable pub owner_of : List Held → (q : ℕ) → Option Held
owner_of found q = find (is_stat_of q) found

unfoldable pub head_of : List Held → (q : ℕ) → Option Held
head_of found q = option_or (owner_of found q) (find (is_of q) found)

-- whether an object is the owner of its id, and whether the owner of an id is a directory
abbrev pub is_owner : List Held → Target → Bool
is_owner found o = option_map_or (is_object_at o) (owner_of found o.oid.0) false

abbrev pub owner_facts : List Held → (q : ℕ) → Option Facts
owner_facts found q = option_and_then facts_in (owner_of found q)

abbrev pub is_directory_id : List Held → (q : ℕ) → Bool
is_directory_id found q = option_map_or (λ f. f.directory) (owner_facts found q) false

-- what an entry names
abbrev pub target_of : Thing → Option Target
target_of (Stat f) = None
target_of (Entry t) = Some t
target_of (Tail n) = None
target_of (Extent n) = None

-- ---- what the root reaches, by at most so many entries: each entry leads from its directory to the id that it names

abbrev pub leads_to : (q : ℕ) → Thing → Bool
leads_to q t = option_map_or (λ o. o.oid.0 == q) (target_of t) false

unfoldable pub is_reached_by : (steps : ℕ) → List Held → (q : ℕ) → Bool
is_reached_by zero found q = q == 42
is_reached_by (suc steps) found q =
    is_reached_by steps found q || list_any (λ h. leads_to q h.thing && is_reached_by steps found (id_of h)) found

abbrev pub is_reached : List Held → (q : ℕ) → Bool
is_reached found q = is_reached_by (length found) found q

-- ---- what is added up under ids

-- how many bytes of a tail and blocks of an extent it is
abbrev pub tail_bytes : Thing → ℕ
tail_bytes (Stat f) = 0
tail_bytes (Entry t) = 0
tail_bytes (Tail n) = n
tail_bytes (Extent n) = 0

abbrev pub extent_blocks : Thing → ℕ
extent_blocks (Stat f) = 0
extent_blocks (Entry t) = 0
extent_blocks (Tail n) = 0
extent_blocks (Extent n) = n

-- whether it is an entry that names such an object
abbrev pub names_one : (Target → Bool) → Held → Bool
names_one p h = option_map_or p (target_of h.thing) false

-- a part of the body of an id's owner
abbrev pub is_own : List Held → Held → Bool
is_own found h = is_placed h && is_owner found (object_of h.key)

-- a part of a body that begins at an offset, and goes past the end of a file of so many bytes
abbrev pub ends_past : (size offset : ℕ) → Thing → Bool
ends_past size offset (Stat f) = false
ends_past size offset (Entry t) = false
ends_past size offset (Tail n) = nat_lt size (offset + n)
ends_past size offset (Extent n) = nat_lt (4096 * blocks_for size) (offset + 4096 * n)

abbrev pub is_past : List Held → Held → Bool
is_past found h = is_own found h
    && option_map_or (λ f. nat_le f.size GREATEST_SIZE && ends_past f.size (offset_of h.key) h.thing) (owner_facts found (id_of h)) false

-- what may not be there: with a key that no such thing has; stat data of a second object of an id, or of a root that is a
-- file; an entry without its directory or its target; a part of a body without its file
abbrev pub strays : List Held → Held → Thing → Bool
strays found h (Stat f) = not (is_owner found (object_of h.key)) || is_root (object_of h.key) && not f.directory
strays found h (Entry t) = not (is_directory_id found (id_of h)) || is_none (facts_at found t)
strays found h (Tail n) = not (is_owner found (object_of h.key)) || is_directory_id found (id_of h)
strays found h (Extent n) = not (is_owner found (object_of h.key)) || is_directory_id found (id_of h)

abbrev pub is_stray : List Held → Held → Bool
is_stray found h = not (is_placed h) || strays found h h.thing

-- the id under which a thing counts for a part
abbrev pub named_id : Thing → ℕ
named_id (Stat f) = 0
named_id (Entry t) = t.oid.0
named_id (Tail n) = 0
named_id (Extent n) = 0

abbrev pub place_of : Part → Held → ℕ
place_of Entries h = id_of h
place_of Directories h = id_of h
place_of LinksTo h = named_id h.thing
place_of Reached h = named_id h.thing
place_of Tails h = id_of h
place_of Blocks h = id_of h
place_of Past h = id_of h
place_of Strays h = id_of h

-- and what it counts there
abbrev pub once : Bool → ℕ
once b = if b then 1 else 0

abbrev pub share_of : Part → List Held → Held → ℕ
-- the entries of a directory, and those of them that name directories
share_of Entries found h = once (names_one (λ t. true) h)
share_of Directories found h = once (names_one (is_directory_at found) h)
-- the entries that name an id's owner, and those of them whose directory is reached
share_of LinksTo found h = once (names_one (is_owner found) h)
share_of Reached found h = once (names_one (is_owner found) h && is_reached found (id_of h))
-- the bytes of tails and the blocks of extents that an id's owner has, and the parts that go past its end
share_of Tails found h = if is_own found h then tail_bytes h.thing else 0
share_of Blocks found h = if is_own found h then extent_blocks h.thing else 0
share_of Past found h = once (is_past found h)
share_of Strays found h = once (is_stray found h)

-- the sum under an id
abbrev pub share_under : Part → List Held → (q : ℕ) → Held → ℕ
share_under part found q h = if place_of part h == q then share_of part found h else 0

unfoldable pub sum_of : Part → List Held → (q : ℕ) → ℕ
sum_of part found q = sum_by (share_under part found q) found

-- ---- what is wrong with an id: with the object that owns it, and with what stands under it

-- A body is in tails alone, or in extents alone, which cover the size.
abbrev pub body_fits : (size tails blocks : ℕ) → Bool
body_fits size tails blocks = tails == size && blocks == 0 || tails == 0 && blocks == blocks_for size

abbrev pub size_fits : List Held → (q : ℕ) → Facts → Bool
size_fits found q f = f.bytes == f.size && (if f.directory then f.size == sum_of Entries found q else
    (nat_le f.size GREATEST_SIZE && sum_of Past found q == 0 && body_fits f.size (sum_of Tails found q) (sum_of Blocks found q)))

-- a root is named by no entry, another directory by one at most
abbrev pub names_fit : (root : Bool) → (links : ℕ) → Bool
names_fit root links = links == 0 || not root && links == 1

abbrev pub links_fit : List Held → (q : ℕ) → (root : Bool) → Facts → Bool
links_fit found q root f = if f.directory then (f.nlink == 2 + sum_of Directories found q && names_fit root (sum_of LinksTo found q)) else
    (f.nlink == sum_of LinksTo found q)

-- the object that owns an id: whether it is the root, and its facts
abbrev pub judged_owner : List Held → (q : ℕ) → Option (Bool × Facts)
judged_owner found q = option_and_then (λ h. option_map (λ f. (is_root (object_of h.key), f)) (facts_in h)) (owner_of found q)

abbrev pub size_is_wrong : List Held → (q : ℕ) → Bool
size_is_wrong found q = option_map_or (λ o. not (size_fits found q o.1)) (judged_owner found q) false

abbrev pub links_are_wrong : List Held → (q : ℕ) → Bool
links_are_wrong found q = option_map_or (λ o. not (links_fit found q o.0 o.1)) (judged_owner found q) false

-- another object than the root is not reached
abbrev pub is_unmet : List Held → (q : ℕ) → Bool
is_unmet found q = option_map_or (λ o. not o.0 && sum_of Reached found q == 0) (judged_owner found q) false

-- the root's id is lost too where there is no root
abbrev pub is_lost : List Held → (q : ℕ) → Bool
is_lost found q = nat_lt 0 (sum_of Strays found q) || is_unmet found q || q == 42 && is_none (facts_at found root_object)

abbrev pub id_is_wrong : Super40 → List Held → (q : ℕ) → Bool
id_is_wrong s found q = is_some (owner_of found q) && (nat_lt q 42 || nat_le s.oid q)

-- ---- the faults, by rising id, and last that of the superblock

abbrev pub what_if : Bool → What → List What
what_if b what = if b then what ∷ [] else []

unfoldable pub wrongs_of : Super40 → List Held → (q : ℕ) → List What
wrongs_of s found q = what_if (size_is_wrong found q) Size ++ (what_if (links_are_wrong found q) Links
    ++ (what_if (is_lost found q) Lost ++ what_if (id_is_wrong s found q) Id))

-- the block of an id: that of its owner, else of the first thing under it; of a root without stat data the leftmost leaf
abbrev pub block_under : (leaf q : ℕ) → Held → ℕ
block_under leaf q h = if not (q == 42) || is_stat_data h then h.block else leaf

unfoldable pub block_of : (leaf : ℕ) → List Held → (q : ℕ) → ℕ
block_of leaf found q = option_map_or (block_under leaf q) (head_of found q) leaf

-- the ids under which something stands, and the root's, rising, each once
unfoldable pub ids_of : List Held → List ℕ
ids_of found = fold (insert_key nat_cmp) (42 ∷ []) (map id_of found)

abbrev pub faults_under : Super40 → (leaf : ℕ) → List Held → (q : ℕ) → List Fault
faults_under s leaf found q = map (fault_at (block_of leaf found q)) (wrongs_of s found q)

-- how many stat data there are
abbrev pub stats_of : List Held → ℕ
stats_of found = count_by is_stat_data found

abbrev pub count_faults : Super40 → List Held → List Fault
count_faults s found = if s.file_count == stats_of found then [] else (fault_at SUPER_BLOCK.0 Files ∷ [])

unfoldable pub object_faults : Super40 → (leaf : ℕ) → List Held → List Fault
object_faults s leaf found = flat_map (faults_under s leaf found) (ids_of found) ++ count_faults s found
