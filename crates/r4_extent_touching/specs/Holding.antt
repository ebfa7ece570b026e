-- Which cells that were met hold keys, in leaves and in extents (docs/volume.md, "Reach"). A key is its rank.
use Rattle.std.specs.Prelude.{◌≡◌, ℕ, ◌<◌, ◌≤◌, Bool, true, Contains, None, Some, slice_get}
use Rattle.r4_base.specs.Key.{least, top}
use Rattle.r4_base.specs.Node.{Item, items_of}
use Rattle.r4_base.specs.Tree.{Holds, Name, Node, Store}
use Rattle.r4_base.specs.Value.{Value}
use Rattle.r4_touching.specs.r4_cell.Seen.{CellSeen, node_of}
use Rattle.r4_marking.specs.Marks.{names_at}
use Rattle.r4_marking.specs.r4_reach.Demand.{Demand}
use Rattle.r4_marking.specs.r4_reach.Reach.{Touches}
use Rattle.r4_marking.specs.r4_search.Pool.{Goes, IsNamed, IsRefused, PoolState}
use Rattle.r4_marking.specs.r4_search.declared.pool.FetchFault.{FetchFault}
use Rattle.r4_touching.specs.r4_seeing.Looking.{met_cells}

-- A cell of the store holds the key: a leaf, a data block, or a twig with an extent of which no block has it.
abbrev pub IsHeld : Store Value → (key : ℕ) → Type 0
IsHeld t k = (i : ℕ) × (c : Node Value) × (t i ≡ Some c) × Holds c k

-- Each of these keys, as far as it is one of a tree, is held by a cell that was met.
abbrev pub AreHeld : PoolState → (keys : ℕ → Bool) → Type 0
AreHeld p keys = (k : ℕ) → keys k ≡ true → least ≤ k → k < top → IsHeld (met_cells p) k

-- All that a demand touches is held, and beside each twig that turns the leaves are there.
pub record HoldsTouched {A : Type 0} (d : Demand A) (t : Store Value) : Type 0 where
  pub held : (k : ℕ) → Touches d k → least ≤ k → k < top → IsHeld t k
  pub beside : (i : ℕ) (c : Node Value) (n : Name) → t i ≡ Some c → d.turns c ≡ true
      → Contains (d.beside c) n → (b : Node Value) × (t n.id ≡ Some b)

-- Each leaf that a cell names and that ends at a key was met.
abbrev pub AreLeftMet : PoolState → CellSeen → (key : ℕ) → Type 0
AreLeftMet p c k = (n : Name) → Contains (node_of c).names n → 1 ≤ n.level → n.hi ≡ k
    → (x : CellSeen) × (p.met n.id ≡ Some x)

-- and so was each of those that the item at a place names
abbrev pub AreLeftMetAt : PoolState → CellSeen → (place key : ℕ) → Type 0
AreLeftMetAt p c place k = (item : Item) (n : Name) → slice_get (items_of c.block) place ≡ Some item
    → Contains (names_at c place item) n → 1 ≤ n.level → n.hi ≡ k
    → (x : CellSeen) × (p.met n.id ≡ Some x)

-- Nothing else was met from then on.
abbrev pub MeetsLeft : CellSeen → (key : ℕ) → (old new : PoolState) → Type 0
MeetsLeft c k old new = (i : ℕ) (x : CellSeen) → new.met i ≡ Some x → old.met i ≡ None
    → (n : Name) × Contains (node_of c).names n × (n.hi ≡ k) × IsNamed n x

-- Such a node was refused.
abbrev pub StopsLeft : CellSeen → (key : ℕ) → (old : PoolState) → FetchFault → (new : PoolState)
    → Type 0
StopsLeft c k old e new = (n : Name) × Contains (node_of c).names n × (n.hi ≡ k)
    × (mid : PoolState) × Goes old mid × IsRefused n mid e new
