-- The way down a tree to a key: which node a cell leads to, where the way ends, and the cells on it (docs/volume.md, "The tree"). A key is its rank.
use Rattle.std.specs.Prelude.{◌≡◌, ◌⊎◌, ℕ, ◌≤◌, List, [], ◌∷◌, All, Contains, Option, Some, None}
use Rattle.r4_base.specs.Key.{least, top}
use Rattle.r4_base.specs.Tree.{Name, Span, InName, InSpan}
use Rattle.r4_cell.specs.Seen.{CellSeen, node_of}
use Rattle.r4_cell.specs.declared.change.Root.{Root}
use Rattle.r4_search.specs.Pool.{PoolState, IsKnown, IsMet, IsNamed, IsOf, IsRefused, KnowsNames, StandsInMemory}
use Rattle.r4_search.specs.declared.pool.FetchFault.{FetchFault}
use Rattle.r4_search.specs.declared.pool.FetchFault.TheVariants.{Read, Damaged, Memory}

-- the root as it is asked for: at the height of the tree, with the range of all keys
abbrev pub root_name : Root → Name
root_name root = record { id = root.id.0; level = root.height; lo = least; hi = top }

-- The cell names a node, and the key lies in the range of that.
pub record LeadsTo (c : CellSeen) (key : ℕ) (n : Name) : Type 0 where
  pub named : Contains (node_of c).names n
  pub within : InName n key
  pub node : 1 ≤ n.level

-- The way ends at a leaf, and at a twig where the key lies in the range of an extent.
abbrev pub EndsAt : CellSeen → (key : ℕ) → Type 0
EndsAt c key = (c.level ≡ 1) ⊎ ((s : Span) × Contains (node_of c).spans s × InSpan s key)

-- what comes after a cell on the way, and first of all the root
abbrev pub Follows : Root → (key : ℕ) → (before : Option CellSeen) → Name → Type 0
Follows root key None n = n ≡ root_name root
Follows root key (Some c) n = LeadsTo c key n

-- the cells follow one another, the first of them this one
abbrev pub Descends : Root → (key : ℕ) → (before : Option CellSeen) → List CellSeen → Type 0
Descends root key before [] = Unit {0}
Descends root key before (c ∷ cells) = ((n : Name) × Follows root key before n × IsNamed n c) × Descends root key (Some c) cells

abbrev pub last_of : (before : Option CellSeen) → List CellSeen → Option CellSeen
last_of before [] = before
last_of before (c ∷ cells) = last_of (Some c) cells

-- The cells from the root on, down to the one where the way ends.
pub record IsPath (root : Root) (key : ℕ) (cells : List CellSeen) : Type 0 where
  pub descends : Descends root key None cells
  pub end : CellSeen
  pub is_last : last_of None cells ≡ Some end
  pub ends : EndsAt end key

-- what the last of these cells names can be asked for
abbrev pub KnowsOn : PoolState → List CellSeen → Type 0
KnowsOn p cells = (c : CellSeen) → last_of None cells ≡ Some c → KnowsNames p c

-- what is kept from then on is among these cells
abbrev pub KeepsOnly : (old new : PoolState) → List CellSeen → Type 0
KeepsOnly old new cells = (i : ℕ) (c : CellSeen) → new.kept i ≡ Some c → old.kept i ≡ None → Contains cells c

-- These cells were met, and nothing else is from then on.
pub record Meets (old new : PoolState) (cells : List CellSeen) : Type 0 where
  pub met : All (IsMet new) cells
  pub stand : All StandsInMemory cells
  pub only : (i : ℕ) (c : CellSeen) → new.met i ≡ Some c → old.met i ≡ None → Contains cells c

-- Cells that lead down from the root were met, also where the way ends early.
pub record MeetsOn (root : Root) (key : ℕ) (old new : PoolState) : Type 0 where
  pub cells : List CellSeen
  pub descends : Descends root key None cells
  pub meets : Meets old new cells

-- The cells of the pool lead down to one that is refused.
pub record StopsOn (root : Root) (key : ℕ) (old : PoolState) (e : FetchFault) (new : PoolState) : Type 0 where
  pub cells : List CellSeen
  pub descends : Descends root key None cells
  pub are_of : All (IsOf old) cells
  pub only : KeepsOnly old new cells
  pub at : Name
  pub follows : Follows root key (last_of None cells) at
  pub known : IsKnown new at
  pub refused : IsRefused at old e new

-- The cells of the pool lead down so far.
pub record StopsShort (root : Root) (key : ℕ) (old new : PoolState) : Type 0 where
  pub cells : List CellSeen
  pub descends : Descends root key None cells
  pub are_of : All (IsOf old) cells
  pub only : KeepsOnly old new cells

-- Why a path ends early.
abbrev pub Stops : Root → (key : ℕ) → PoolState → FetchFault → PoolState → Type 0
Stops root key old (Read at faults) new = StopsOn root key old (Read at faults) new
Stops root key old (Damaged at fault) new = StopsOn root key old (Damaged at fault) new
Stops root key old Memory new = StopsShort root key old new
