-- Places among the entries of a leaf (docs/program.md, "Listing").
use Rattle.std.specs.Prelude.{◌≡◌, ◌≢◌, ◌⊎◌, ℕ, ◌+◌, ◌*◌, ◌^◌, ◌<◌, ◌≤◌, List, slice_get, slice_index, Some}
use Rattle.r4_base.specs.Dir.{Entry as DirEntry, entries_of}
use Rattle.r4_base.specs.Key.{rank}
use Rattle.r4_base.specs.Node.{Item, items_of}
use Rattle.r4_base.specs.Value.{Content, Entry as Named, at_key}
use Rattle.r4_base.specs.Image.{Image}
use Rattle.r4_base.specs.Volume.{HasContent}
use Rattle.r4_base.specs.declared.items.Target.{Target}
use Rattle.r4_cell.specs.Seen.{CellSeen, node_of}
use Rattle.r4_cde.specs.Shown.{entry_shown}
use Rattle.r4_list.specs.Walking.{OpenDir, IsLeftAt}
use Rattle.r4_list.specs.declared.frame.Place.{Place}
use Rattle.r4_list.specs.declared.frame.Place.TheVariants.{Entry, ItemEnd, LeafEnd, DirEnd}

-- the next entry, and the next item, can be named
abbrev pub GoesFurther : (item entry : ℕ) → Place → Type 0
GoesFurther item entry (Entry e) = entry + 1 < 2 ^ 16
GoesFurther item entry ItemEnd = item + 1 < 2 ^ 16
GoesFurther item entry LeafEnd = Unit {0}
GoesFurther item entry DirEnd = Unit {0}

-- An entry of a leaf, by the places of its item and in that.
pub record EntryAt (c : CellSeen) (i j : ℕ) (e : DirEntry) : Type 0 where
  pub item : Item
  pub is : slice_get (items_of c.block) i ≡ Some item
  pub plugin : item.plugin ≡ 2
  pub at : slice_get (entries_of item.key item.body) j ≡ Some e

-- not before a place
abbrev pub IsFrom : (item entry i j : ℕ) → Type 0
IsFrom item entry i j = (item < i) ⊎ ((item ≡ i) × (entry ≤ j))

-- the first number of the keys of a directory's entries
abbrev pub dir_number : (dir : ℕ) → ℕ
dir_number dir = dir * 16

-- the item at a place has a key that begins with a directory's number, or another one
abbrev pub IsOfDir : CellSeen → (dir i : ℕ) → Type 0
IsOfDir c dir i = (x : Item) × (slice_get (items_of c.block) i ≡ Some x) × (slice_index x.key.el 0 ≡ dir_number dir)

abbrev pub IsOfOther : CellSeen → (dir i : ℕ) → Type 0
IsOfOther c dir i = (x : Item) × (slice_get (items_of c.block) i ≡ Some x) × (slice_index x.key.el 0 ≢ dir_number dir)

-- what stands at a place: an entry of the directory; none of its item from there on; no item from there on; another's item
abbrev pub StandsAt : CellSeen → (dir item entry : ℕ) → Place → Type 0
StandsAt c dir item entry (Entry e) = EntryAt c item entry (entry_shown e) × IsOfDir c dir item
StandsAt c dir item entry ItemEnd = (j : ℕ) (e : DirEntry) → EntryAt c item j e → entry ≤ j → ⊥
StandsAt c dir item entry LeafEnd = (i : ℕ) (x : Item) → slice_get (items_of c.block) i ≡ Some x → item ≤ i → ⊥
StandsAt c dir item entry DirEnd = IsOfOther c dir item

-- the place of an entry of a leaf from a place on that has this key, name and target
abbrev pub FoundFrom : CellSeen → (item entry key : ℕ) → List ℕ → Target → Type 0
FoundFrom c item entry key name o = (i : ℕ) × (j : ℕ) × (e : DirEntry) × EntryAt c i j e × IsFrom item entry i j × (rank e.key ≡ key) × (e.name ≡ name) × (e.target ≡ o)

-- What is left of a directory stands from a place of a leaf on, or behind the leaf.
pub record StandsFrom (m : Content) (f : OpenDir) (c : CellSeen) (item entry : ℕ) : Type 0 where
  pub from : f.from ≤ rank c.hi
  pub above : dir_number f.dir.oid.0 * 2 ^ 192 ≤ rank c.hi
  pub items : (i : ℕ) (x : Item) → slice_get (items_of c.block) i ≡ Some x → item ≤ i → dir_number f.dir.oid.0 * 2 ^ 192 ≤ rank x.key
  pub later : (i j : ℕ) (e : DirEntry) → EntryAt c i j e → IsFrom item entry i j → f.from ≤ rank e.key
  pub left : (k : ℕ) (name : List ℕ) (o : Target) → IsLeftAt m f k name o → k < rank c.hi → FoundFrom c item entry k name o

-- no entry has a key from one on and below another
abbrev pub NoEntries : Content → (from to : ℕ) → Type 0
NoEntries m from to = (k : ℕ) (name : List ℕ) (o : Target) → at_key m k ≡ Some (Named name o) → from ≤ k → k < to → ⊥

-- A leaf of the tree that has a key or, where that ends in an extent, the next one: no entry stands between.
pub record IsNextLeaf {n : ℕ} {image : Image} {m : Content} (c : HasContent n image m) (key : ℕ) (x : CellSeen) : Type 0 where
  pub stored : c.store x.id ≡ Some (node_of x)
  pub at : ℕ
  pub from : key ≤ at
  pub low : rank x.lo ≤ at
  pub high : at < rank x.hi
  pub none : NoEntries m key (rank x.lo)

-- The place of a leaf is one from which on an open directory goes on.
pub record IsOpenAt {n : ℕ} {image : Image} {m : Content} (c : HasContent n image m) (f : OpenDir) (dir : ℕ) (x : CellSeen) (item entry : ℕ) : Type 0 where
  pub dir_is : f.dir.oid.0 ≡ dir
  pub stored : c.store x.id ≡ Some (node_of x)
  pub stands : StandsFrom m f x item entry
