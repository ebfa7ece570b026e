-- Trees of cells (docs/volume.md, "The tree"). A key is its rank.
use Rattle.std.specs.Prelude.{◌≡◌, ℕ, suc, ◌<◌, ◌≤◌, ◌⊎◌, List, Contains, Option, Some}
use Rattle.r4_base.specs.Key.{least, top}

-- one that a cell names: a node one level below by a pointer, or a data block, at level 0, by an extent
pub record Name : Type 0 where
  pub id : ℕ
  pub level : ℕ
  pub lo : ℕ
  pub hi : ℕ

-- the range of one extent item
pub record Span : Type 0 where
  pub lo : ℕ
  pub hi : ℕ

-- A cell: a node at a level and for a range, or a data block, at level 0; with its bytes, what it names, the ranges of its extents, and the
-- units that are its own: a leaf all of its keys, a twig the zeros of its holes, a data block its bytes. V is the type of values.
pub record Node (V : Type 0) : Type 0 where
  pub level : ℕ
  pub lo : ℕ
  pub hi : ℕ
  pub block : List ℕ
  pub names : List Name
  pub spans : List Span
  pub units : List (ℕ × V)

-- which cells there are, by the number that names each
abbrev pub Store : Type 0 → Type 0
Store V = ℕ → Option (Node V)

-- the root's number, and its level
pub record Root : Type 0 where
  pub id : ℕ
  pub height : ℕ

-- the key lies in the range
abbrev pub InNode : {V : Type 0} → Node V → ℕ → Type 0
InNode c k = (c.lo ≤ k) × (k < c.hi)

abbrev pub InName : Name → ℕ → Type 0
InName n k = (n.lo ≤ k) × (k < n.hi)

abbrev pub InSpan : Span → ℕ → Type 0
InSpan s k = (s.lo ≤ k) × (k < s.hi)

-- the cell has the level and the range by which it is named
pub record Fits {V : Type 0} (n : Name) (c : Node V) : Type 0 where
  pub level : c.level ≡ n.level
  pub lo : c.lo ≡ n.lo
  pub hi : c.hi ≡ n.hi

-- a name of a data block
abbrev pub IsData : Name → Type 0
IsData n = n.level ≡ 0

-- A cell by itself: what it names, its extents and its units stand where they may.
pub record IsNode {V : Type 0} (c : Node V) : Type 0 where
  pub from_least : least ≤ c.lo
  pub nonempty : c.lo < c.hi
  pub to_top : c.hi ≤ top
  -- a pointer names a node one level below, and an extent, in a twig, a data block
  pub below : (n : Name) → Contains c.names n → ((1 ≤ n.level) × (suc n.level ≡ c.level)) ⊎ ((c.level ≡ 2) × IsData n)
  pub name_nonempty : (n : Name) → Contains c.names n → n.lo < n.hi
  pub name_from : (n : Name) → Contains c.names n → c.lo ≤ n.lo
  pub name_to : (n : Name) → Contains c.names n → n.hi ≤ c.hi
  -- no key lies under two pointers, or in two blocks
  pub names_apart : (n m : Name) (k : ℕ) → Contains c.names n → Contains c.names m → n.level ≡ m.level → InName n k → InName m k → n ≡ m
  -- nor under a pointer and in an extent
  pub spans_apart : (n : Name) (s : Span) (k : ℕ) → Contains c.names n → Contains c.spans s → InName n k → InSpan s k → IsData n
  pub span_from : (s : Span) → Contains c.spans s → c.lo ≤ s.lo
  pub span_to : (s : Span) → Contains c.spans s → s.hi ≤ c.hi
  -- extents stand in twigs alone
  pub spans_in_twigs : (s : Span) → Contains c.spans s → c.level ≡ 2
  -- above the leaves each key of the range lies under a pointer or in an extent
  pub covered : (k : ℕ) → 2 ≤ c.level → InNode c k → ((n : Name) × Contains c.names n × (suc n.level ≡ c.level) × InName n k) ⊎ ((s : Span) × Contains c.spans s × InSpan s k)
  -- a block lies in an extent
  pub data_in_span : (n : Name) → Contains c.names n → IsData n → (s : Span) × Contains c.spans s × (s.lo ≤ n.lo) × (n.hi ≤ s.hi)
  -- units of its own lie in its range, and those of a twig in an extent and in no block
  pub unit_in : (k : ℕ) (v : V) → Contains c.units (k, v) → InNode c k
  pub unit_low : (k : ℕ) (v : V) → Contains c.units (k, v) → (c.level ≤ 1) ⊎ ((s : Span) × Contains c.spans s × InSpan s k)
  pub unit_in_hole : (n : Name) (k : ℕ) (v : V) → Contains c.names n → IsData n → Contains c.units (k, v) → InName n k → ⊥
  pub one_unit : (k : ℕ) (v w : V) → Contains c.units (k, v) → Contains c.units (k, w) → v ≡ w

-- The store is a tree, and has no cell beside it.
pub record IsTree {V : Type 0} (t : Store V) (root : Root) : Type 0 where
  pub nodes : (i : ℕ) (c : Node V) → t i ≡ Some c → IsNode c
  pub root_node : Node V
  pub root_is : t root.id ≡ Some root_node
  pub root_level : root_node.level ≡ root.height
  pub root_lo : root_node.lo ≡ least
  pub root_hi : root_node.hi ≡ top
  pub height : 2 ≤ root.height
  pub none_above : (i : ℕ) (c : Node V) → t i ≡ Some c → c.level ≤ root.height
  -- what a cell names is there
  pub named : (i : ℕ) (c : Node V) (n : Name) → t i ≡ Some c → Contains c.names n → (d : Node V) × (t n.id ≡ Some d) × Fits n d
  -- no key lies in two cells of one level, the data blocks aside
  pub apart : (i j : ℕ) (c d : Node V) (k : ℕ) → t i ≡ Some c → t j ≡ Some d → c.level ≡ d.level → 1 ≤ c.level → InNode c k → InNode d k → i ≡ j
  -- nor in a leaf and an extent
  pub leaf_or_extent : (i j : ℕ) (c d : Node V) (s : Span) (k : ℕ) → t i ≡ Some c → t j ≡ Some d → c.level ≡ 1 → Contains d.spans s → InNode c k → InSpan s k → ⊥
  -- each data block is named by a twig
  pub data_named : (i : ℕ) (c : Node V) → t i ≡ Some c → c.level ≡ 0 → (j : ℕ) × (d : Node V) × (n : Name) × (t j ≡ Some d) × Contains d.names n × (n.id ≡ i)

-- a cell of the store has the unit
abbrev pub UnitAt : {V : Type 0} → Store V → ℕ → V → Type 0
UnitAt {V} t k v = (i : ℕ) × (c : Node V) × (t i ≡ Some c) × Contains c.units (k, v)

-- the key is the cell's own: it lies in the leaf or the data block, or in an extent of the twig and in no block
abbrev pub Holds : {V : Type 0} → Node V → ℕ → Type 0
Holds c k = ((c.level ≤ 1) × InNode c k) ⊎ ((s : Span) × Contains c.spans s × InSpan s k × ((n : Name) → Contains c.names n → IsData n → InName n k → ⊥))

-- the key lies in a cell of the level
abbrev pub Covers : {V : Type 0} → Store V → (level key : ℕ) → Type 0
Covers {V} t l k = (i : ℕ) × (c : Node V) × (t i ≡ Some c) × (c.level ≡ l) × InNode c k

-- the key lies in a leaf or in an extent
abbrev pub CoversLeaf : {V : Type 0} → Store V → ℕ → Type 0
CoversLeaf {V} t k = Covers t 1 k ⊎ ((i : ℕ) × (c : Node V) × (s : Span) × (t i ≡ Some c) × Contains c.spans s × InSpan s k)
