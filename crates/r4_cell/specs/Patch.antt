-- Patches: cells that take the place of others in a tree (docs/volume.md, "Changes").
use Rattle.std.specs.Prelude.{◌≡◌, ◌≢◌, ℕ, ◌<◌, ◌≤◌, ◌⊎◌, ◌==◌, if◌then◌else◌, List, [], ◌∷◌, IsSome, Contains, All, AllPairs, Option, None, Some}
use Rattle.std.specs.Option.{option_map, unwrap_or}
use Rattle.r4_base.specs.Key.{least, top}
use Rattle.r4_base.specs.Tree.{Name, Node, Store, Root, InNode, Fits, IsNode, Covers, CoversLeaf}
use Rattle.r4_base.specs.Value.{Value}
use Rattle.r4_cell.specs.Seen.{CellSeen, node_of}
use Rattle.r4_cell.specs.declared.change.Root.{Root as RootPair}

-- old cells and new ones by their names, and the new root where it changes
pub record Patch (V : Type 0) : Type 0 where
  pub old : Store V
  pub new : Store V
  pub root : Option Root

-- the new cell, else none in the place of an old one, else what was there
abbrev pub over : {V : Type 0} → Option (Node V) → Option (Node V) → Option (Node V) → Option (Node V)
over (Some c) old was = Some c
over None (Some c) was = None
over None None was = was

abbrev pub place : {V : Type 0} → Patch V → Store V → Store V
place p t i = over (p.new i) (p.old i) (t i)

abbrev pub root_after : {V : Type 0} → Patch V → Root → Root
root_after p root = unwrap_or p.root root

-- some cell of the store names it
abbrev pub Names : {V : Type 0} → Store V → Name → Type 0
Names {V} t n = (i : ℕ) × (c : Node V) × (t i ≡ Some c) × Contains c.names n

abbrev pub NamesId : {V : Type 0} → Store V → ℕ → Type 0
NamesId {V} t i = (n : Name) × Names t n × (n.id ≡ i)

-- the new root is a new cell of the whole range, and no new cell is higher
pub record IsNewRoot {V : Type 0} (new : Store V) (r : Root) : Type 0 where
  pub node : Node V
  pub is : new r.id ≡ Some node
  pub level : node.level ≡ r.height
  pub lo : node.lo ≡ least
  pub hi : node.hi ≡ top
  pub highest : (i : ℕ) (c : Node V) → new i ≡ Some c → c.level ≤ r.height

abbrev pub SameRange : {V : Type 0} → Node V → Node V → Type 0
SameRange o c = (o.level ≡ c.level) × (o.lo ≡ c.lo) × (o.hi ≡ c.hi)

-- the new cell is not one that takes the place of an old cell which no old cell names
abbrev pub NeedsName : {V : Type 0} → Patch V → ℕ → Node V → Type 0
NeedsName {V} p i c = (p.old i ≡ None) ⊎ (NamesId p.old i ⊎ ((o : Node V) × (p.old i ≡ Some o) × (¬ (SameRange o c))))

pub record IsPatch {V : Type 0} (p : Patch V) : Type 0 where
  pub nodes : (i : ℕ) (c : Node V) → p.new i ≡ Some c → IsNode c
  -- 1. above the leaves old and new cells cover the same ranges
  pub covers_old : (l k : ℕ) → 2 ≤ l → Covers p.old l k → Covers p.new l k
  -- where the root pair changes, new cells may stand above all old ones
  pub covers_new : (l k : ℕ) → 2 ≤ l → Covers p.new l k → Covers p.old l k ⊎ (IsSome p.root × ((i : ℕ) (c : Node V) → p.old i ≡ Some c → c.level < l))
  pub new_root : (r : Root) → p.root ≡ Some r → IsNewRoot p.new r
  -- 2. new cells of one level do not meet
  pub apart : (i j : ℕ) (c d : Node V) (k : ℕ) → p.new i ≡ Some c → p.new j ≡ Some d → c.level ≡ d.level → 1 ≤ c.level → InNode c k → InNode d k → i ≡ j
  -- 3. what a new cell names is a new cell, or no old one that an old cell named
  pub named : (n : Name) → Names p.new n → ((d : Node V) × (p.new n.id ≡ Some d) × Fits n d) ⊎ ((p.old n.id ≡ None) × Names p.old n)
  -- 4. what an old cell names is an old cell, or a new cell names it
  pub kept : (n : Name) → Names p.old n → p.old n.id ≡ None → Names p.new n
  -- 5. an old cell that no old cell names has a new one of its name, level and range. The old root may lack it where the root pair changes
  pub replaced : (i : ℕ) (c : Node V) → p.old i ≡ Some c → ¬ (NamesId p.old i) → ((d : Node V) × (p.new i ≡ Some d) × SameRange d c) ⊎ (IsSome p.root × ((j : ℕ) (d : Node V) → p.old j ≡ Some d → d.level ≤ c.level))
  -- 6. every other new cell is named by a new cell or is the new root
  pub reached : (i : ℕ) (c : Node V) → p.new i ≡ Some c → NeedsName p i c → NamesId p.new i ⊎ ((r : Root) × (p.root ≡ Some r) × (r.id ≡ i))
  -- 7. old leaves with the extents of old twigs cover the same ranges as new ones
  pub leaves_old : (k : ℕ) → CoversLeaf p.old k → CoversLeaf p.new k
  pub leaves_new : (k : ℕ) → CoversLeaf p.new k → CoversLeaf p.old k

-- the tree has the old cells, and no other cell of the name of a new one. Where the root pair changes, its root is an old cell
pub record Meets {V : Type 0} (p : Patch V) (t : Store V) (root : Root) : Type 0 where
  pub has_old : (i : ℕ) (c : Node V) → p.old i ≡ Some c → t i ≡ Some c
  pub free : (i : ℕ) (c : Node V) → p.new i ≡ Some c → p.old i ≡ None → t i ≡ None
  pub root_old : IsSome p.root → (c : Node V) × (p.old root.id ≡ Some c)

-- an untouched cell has it
abbrev pub UnitKept : {V : Type 0} → Patch V → Store V → ℕ → V → Type 0
UnitKept {V} p t k v = (i : ℕ) × (c : Node V) × (p.old i ≡ None) × (t i ≡ Some c) × Contains c.units (k, v)

-- the patch has no cell of this name
abbrev pub Leaves : {V : Type 0} → Patch V → ℕ → Type 0
Leaves p i = (p.new i ≡ None) × (p.old i ≡ None)

-- no node is in both
abbrev pub Apart : {V : Type 0} → Patch V → Patch V → Type 0
Apart p q = (i : ℕ) → Leaves p i ⊎ Leaves q i

abbrev pub place_all : {V : Type 0} → List (Patch V) → Store V → Store V
place_all [] t = t
place_all (p ∷ ps) t = place_all ps (place p t)

abbrev pub root_all : {V : Type 0} → List (Patch V) → Root → Root
root_all [] root = root
root_all (p ∷ ps) root = root_all ps (root_after p root)

-- patches of one tree, no two of which have a node in common
pub record ArePatches {V : Type 0} (ps : List (Patch V)) (t : Store V) (root : Root) : Type 0 where
  pub each : All (λ p. IsPatch p × Meets p t root) ps
  pub apart : AllPairs Apart ps

-- the old cells of two patches, the second over the first: what the first made is no old cell
abbrev pub captured : {V : Type 0} → Option (Node V) → Option (Node V) → Option (Node V) → Option (Node V)
captured (Some c) made o = Some c
captured None (Some d) o = None
captured None None o = o

abbrev pub last_root : Option Root → Option Root → Option Root
last_root first (Some r) = Some r
last_root first None = first

-- the second over the first, as one patch
abbrev pub join : {V : Type 0} → Patch V → Patch V → Patch V
join p q = record { old = λ i. captured (p.old i) (p.new i) (q.old i); new = λ i. over (q.new i) (q.old i) (p.new i); root = last_root p.root q.root }

-- ---- a change, as a patch

-- the cells of a list, by name: the first of a name counts
abbrev pub by_name : List CellSeen → Store Value
by_name [] i = None
by_name (c ∷ cs) i = if c.id == i then Some (node_of c) else by_name cs i

abbrev pub root_of_pair : RootPair → Root
root_of_pair r = record { id = r.id.0; height = r.height }

abbrev pub patch_of : (old new : List CellSeen) → Option RootPair → Patch Value
patch_of old new root = record { old = by_name old; new = by_name new; root = option_map root_of_pair root }

abbrev pub HaveNames : List CellSeen → Type 0
HaveNames cells = AllPairs (λ (c d : CellSeen). c.id ≢ d.id) cells

-- A change is a patch, and no name stands twice among its old or its new cells.
pub record IsChange (old new : List CellSeen) (root : Option RootPair) : Type 0 where
  pub old_names : HaveNames old
  pub new_names : HaveNames new
  pub patch : IsPatch (patch_of old new root)
