-- The bytes of a file's body, as items have them (docs/program.md, "Listing"). A key is its rank.
use Rattle.std.specs.Prelude.{◌≡◌, ℕ, ◌⊎◌, ◌-◌, ◌/◌, ◌<◌, ◌≤◌, false, length, List, ◌++◌, Contains, Some, Result, IfOk, IfErr, OnErr, slice_index}
use Rattle.r4_base.specs.Extents.{blocks_in, units_of}
use Rattle.r4_base.specs.Image.{Image}
use Rattle.r4_base.specs.Node.{Item}
use Rattle.r4_base.specs.Tree.{Name, Node, Store, Fits, UnitAt}
use Rattle.r4_base.specs.Key.{body_key}
use Rattle.r4_base.specs.Value.{Content, Value}
use Rattle.r4_base.specs.Volume.{HasContent, HasStat, is_directory}
use Rattle.r4_base.specs.declared.items.Attr.{Attr}
use Rattle.r4_base.specs.declared.items.Target.{Target}
use Rattle.r4_base.specs.declared.key.Key.{Key}
use Rattle.r4_cell.specs.Seen.{CellSeen, node_of}
use Rattle.r4_cell.specs.declared.change.Root.{Root}
use Rattle.r4_outside.specs.Device.{State}
use Rattle.r4_outside.specs.Sink.{SinkState, AppendsPart}
use Rattle.r4_search.specs.Pool.{PoolState, Goes, IsKnown, IsOf, LeavesDevice}
use Rattle.r4_list.specs.Listing.{bytes_from}
use Rattle.r4_list.specs.Over.{IsOver}
use Rattle.r4_list.specs.Printed.{IsUndamagedStop}
use Rattle.r4_list.specs.Printing.{IsCause, Prints}
use Rattle.r4_list.specs.declared.fault.Stop.{Stop}

-- all of these can be asked for
abbrev pub AreKnown : PoolState → List Name → Type 0
AreKnown p names = (n : Name) → Contains names n → IsKnown p n

-- What a call does that prints, and fetches blocks of these names. A block that is refused is named by a cell that has all of them,
-- and that the pool had when it was fetched.
pub record PrintsNamed {T : Type 0} (root : Root) (names : List Name) (old : PoolState) (before : State) (k : SinkState) (result : Result T Stop) (new : PoolState) (after : State) (k' : SinkState) : Type 0 where
  pub goes : Goes old new
  pub device : LeavesDevice before after
  pub prints : Prints k k'
  pub cause : (first : PoolState) (c : CellSeen) → Goes first old → IsOf first c → ((n : Name) → Contains names n → Contains (node_of c).names n) → IfErr result (λ e. IsCause root first k e new k')

-- the store has a cell of each of these names, at its level and with its range
abbrev pub AreStored : Store Value → List Name → Type 0
AreStored t names = (n : Name) → Contains names n → (d : Node Value) × (t n.id ≡ Some d) × Fits n d

-- the store has each of these units
abbrev pub AreUnits : Store Value → List (ℕ × Value) → Type 0
AreUnits t us = (k : ℕ) (v : Value) → Contains us (k, v) → UnitAt t k v

-- A file of the content goes on up to an offset at least.
pub record IsFileTo (m : Content) (o : Target) (to : ℕ) : Type 0 where
  pub attr : Attr
  pub stat : HasStat m o attr
  pub file : is_directory attr ≡ false
  pub within : to ≤ attr.size

-- the key is the one of a byte of an object's body
abbrev pub IsKeyOf : Target → Key → Type 0
IsKeyOf o key = key ≡ body_key o.locality o.ordering o.oid (slice_index key.el 3)

-- What a call prints of a file's bytes from an offset on, over a pool that reads the tree of the content: as many as it says, or a prefix
-- of at most so many where it stops.
pub record PrintsPart {n : ℕ} {image : Image} {m : Content} (c : HasContent n image m) (root : Root) (o : Target) (from most : ℕ) (k : SinkState) (result : Result ℕ Stop) (new : PoolState) (k' : SinkState) : Type 0 where
  pub over : IsOver c root new
  pub whole : (before : List ℕ) → k.written ≡ Some before → IfOk result (λ len. k'.written ≡ Some (before ++ bytes_from m o len from))
  pub part : (before : List ℕ) → k.written ≡ Some before → OnErr result (AppendsPart (bytes_from m o most from) before k'.written)
  pub undamaged : IfErr result IsUndamagedStop

-- The item has the byte of a file at this key: a tail, or an extent.
pub record HasByte (it : Item) (key : Key) : Type 0 where
  pub first : slice_index it.key.el 0 ≡ slice_index key.el 0
  pub second : slice_index it.key.el 1 ≡ slice_index key.el 1
  pub third : slice_index it.key.el 2 ≡ slice_index key.el 2
  pub has : ((it.plugin ≡ 6) × (slice_index key.el 3 - slice_index it.key.el 3 < length it.body))
      ⊎ ((it.plugin ≡ 5) × ((slice_index key.el 3 - slice_index it.key.el 3) / 4096 < blocks_in (units_of it.body)))
