-- What was seen of a tree, and which of its cells were met (docs/volume.md, "Sight"). A key is its rank.
use Rattle.std.specs.Prelude.{◌≡◌, ◌↔◌, ◌⊎◌, ℕ, ◌<◌, ◌≤◌, List, Contains, Bool, true, false}
use Rattle.std.specs.Prelude.{Option, Some, None}
use Rattle.std.specs.Option.{option_map}
use Rattle.std.specs.FinMap.{find}
use Rattle.std.specs.Ordering.{nat_cmp}
use Rattle.r4_base.specs.Key.{least, rank, top}
use Rattle.r4_base.specs.Tree.{Holds, Name, Node, Store}
use Rattle.r4_base.specs.Value.{Value}
use Rattle.r4_cell.specs.Seen.{CellSeen, node_of}
use Rattle.r4_cell.specs.declared.change.Root.{Root}
use Rattle.r4_content.specs.Edited.{Intervals, Pairs, is_in}
use Rattle.r4_content.specs.Held.{pairs_of}
use Rattle.r4_content.specs.Seen.{Rises}
use Rattle.r4_content.specs.declared.seen.Seen.{Seen}
use Rattle.r4_content.specs.declared.seen.SeenPart.{SeenPart}
use Rattle.r4_search.specs.Path.{root_name}
use Rattle.r4_search.specs.Pool.{Goes, IsKnown, IsNamed, PoolState}
use Rattle.r4_search.specs.declared.pool.FetchFault.{FetchFault}
use Rattle.r4_sight.specs.Parts.{AreFull, all_pairs}
use Rattle.r4_sight.specs.Stretches.{StopsAt}

-- ---- what was met

-- the cells that were met, by their names
abbrev pub met_cells : PoolState → Store Value
met_cells p i = option_map node_of (p.met i)

-- one that was met names the cell
pub record IsNamedByMet (p : PoolState) (c : CellSeen) : Type 0 where
  pub up : CellSeen
  pub met : p.met up.id ≡ Some up
  pub name : Name
  pub named : Contains (node_of up).names name
  pub is : IsNamed name c

-- Each cell that was met is the root's, or one that was met names it.
pub record AreHung (p : PoolState) (root : Root) : Type 0 where
  pub numbers : (i : ℕ) (c : CellSeen) → p.met i ≡ Some c → c.id ≡ i
  pub hung : (i : ℕ) (c : CellSeen) → p.met i ≡ Some c
      → IsNamed (root_name root) c ⊎ IsNamedByMet p c

-- ---- what was seen

-- A cell of the store holds the key, and has just this value there, or none.
pub record IsFoundAt (t : Store Value) (key : ℕ) (found : Option Value) : Type 0 where
  pub id : ℕ
  pub cell : Node Value
  pub is : t id ≡ Some cell
  pub holds : Holds cell key
  pub has : (v : Value) → (found ≡ Some v) ↔ Contains cell.units (key, v)

-- At the keys that are known stands what cells of the store have there, and elsewhere nothing.
pub record AreFound (t : Store Value) (known : Intervals) (s : Pairs) : Type 0 where
  pub rises : Rises s
  pub within : (k : ℕ) → is_in known k ≡ true → (least ≤ k) × (k < top)
  pub found : (k : ℕ) → is_in known k ≡ true → IsFoundAt t k (find nat_cmp k s)
  pub only : (k : ℕ) → is_in known k ≡ false → find nat_cmp k s ≡ None

-- What was seen over a pool that keeps all cells, of the tree with this root.
pub record IsLooking (p : PoolState) (root : Root) (parts : List SeenPart) (known : Intervals)
    : Type 0 where
  pub height : 1 ≤ root.height
  pub begins : IsKnown p (root_name root)
  pub keeps : (level : ℕ) → p.keeps level ≡ true
  pub hung : AreHung p root
  pub full : AreFull parts
  pub found : AreFound (met_cells p) known (all_pairs parts)

-- what contracts see of it
pub record LookingSeen (P : Type 0) : Type 0 where
  pub pool : P
  pub root : Root
  pub seen : Seen
  pub known : Intervals

-- More is known, and what was known stays.
pub record KnowsMore {P : Type 0} (old new : LookingSeen P) : Type 0 where
  pub root : new.root ≡ old.root
  pub known : (k : ℕ) → is_in old.known k ≡ true → is_in new.known k ≡ true
  pub values : (k : ℕ) → is_in old.known k ≡ true
      → find nat_cmp k (pairs_of new.seen) ≡ find nat_cmp k (pairs_of old.seen)
  -- nothing is seen at keys of no tree
  pub outside : (k : ℕ) → (k < least) ⊎ (top ≤ k)
      → find nat_cmp k (pairs_of new.seen) ≡ find nat_cmp k (pairs_of old.seen)

-- A look-up ended early, at one of the keys from one on up to another.
pub record StopsBetween (from to : ℕ) (old : PoolState) (e : FetchFault) (new : PoolState)
    : Type 0 where
  pub key : ℕ
  pub low : from ≤ key
  pub high : key < to
  pub mid : PoolState
  pub before : Goes old mid
  pub stops : StopsAt key mid e new
  pub after : Goes mid new

-- Each cell that was met from then on has one of the keys from one on up to another.
abbrev pub MeetsBetween : (from to : ℕ) → (old new : PoolState) → Type 0
MeetsBetween from to old new = (i : ℕ) (c : CellSeen) → new.met i ≡ Some c → old.met i ≡ None
    → (key : ℕ) × (from ≤ key) × (key < to) × (rank c.lo ≤ key) × (key < rank c.hi)

-- Each key that is known from then on is one of the keys from one on up to another.
abbrev pub KnowsBetween : (from to : ℕ) → (old new : Intervals) → Type 0
KnowsBetween from to old new =
    (k : ℕ) → is_in new k ≡ true → is_in old k ≡ false → (from ≤ k) × (k < to)
