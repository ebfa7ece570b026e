-- A pool that keeps what it answers, over one that keeps nothing (docs/volume.md, "The tree"). A key is its rank.
use Rattle.std.specs.Prelude.{◌≡◌, ℕ, ◌==◌, ◌||◌, nat_eq, nat_lt, true, false, List, Bool, Contains, Option, Some, None, is_some}
use Rattle.std.specs.Prelude.{Result, Ok, Err, if◌then◌else◌}
use Rattle.std.specs.Arc.{arc_value}
use Rattle.std.specs.declared.sync.Arc as arc_declared
use Rattle.std.specs.Global.{Global}
use Rattle.std.specs.Map.{lookup}
use Rattle.std.specs.Option.{option_map, option_or}
use Rattle.r4_base.specs.Cell.{cell_fault}
use Rattle.r4_base.specs.Key.{rank}
use Rattle.r4_base.specs.Tree.{Name}
use Rattle.r4_cell.specs.Seen.{CellSeen, node_of}
use Rattle.r4_search.specs.Pool.{IsRead, PoolState, StandsInMemory, place_fault}
use Rattle.r4_search.specs.declared.pool.FetchFault.{FetchFault}
use Rattle.r4_search.specs.declared.pool.FetchFault.TheVariants.{Read, Damaged, Memory}

-- shared cells, as they are kept
abbrev pub Shared : Type 0
Shared = arc_declared.Arc CellSeen Global

-- the cell of a name that was met
abbrev pub met_in : List (ℕ × Shared) → ℕ → Option CellSeen
met_in met i = option_map (λ cell. arc_value cell) (lookup (nat_eq i) met)

-- What the pool tells with the cells that were met: each of these is kept. Nodes are, and data blocks where all is.
abbrev pub keeping_state : PoolState → (all : Bool) → List (ℕ × Shared) → PoolState
keeping_state p all met = record {
  root = p.root;
  blocks = p.blocks;
  faults = p.faults;
  kept = λ i. option_or (met_in met i) (p.kept i);
  meant = p.meant;
  met = met_in met;
  keeps = λ level. all || nat_lt 0 level;
}

-- What a cell names is a block, or kept.
abbrev pub NamesStand : PoolState → CellSeen → Type 0
NamesStand p c = (m : Name) → Contains (node_of c).names m
    → (nat_lt m.id p.blocks || is_some (p.kept m.id)) ≡ true

-- a cell that the pool answered under a name
pub record WasAnswered (p : PoolState) (i : ℕ) (c : CellSeen) : Type 0 where
  pub id : c.id ≡ i
  pub kept : (k : CellSeen) → p.kept i ≡ Some k → c ≡ k
  pub accepted : p.kept i ≡ None
      → cell_fault false p.blocks c.level (rank c.lo) (rank c.hi) c.block ≡ None
  pub read : p.kept i ≡ None → (b : List ℕ) → p.meant i ≡ Some b → IsRead p.blocks (Some b) c
  pub stands : StandsInMemory c
  pub names : NamesStand p c

abbrev pub WereAnswered : PoolState → List (ℕ × Shared) → Type 0
WereAnswered p met = (i : ℕ) (c : CellSeen) → met_in met i ≡ Some c → WasAnswered p i c

-- why a cell that was met is not the one that is asked for
abbrev pub IsAgain : Name → CellSeen → FetchFault → Type 0
IsAgain n c (Read at faults) = ⊥
IsAgain n c (Damaged at fault) = (at.0 ≡ n.id) × (place_fault n c ≡ Some fault)
IsAgain n c Memory = Unit {0}

-- the cell is among those that were met from then on; where there is no memory nothing more is
abbrev pub Keeps : {T : Type 0} → List (ℕ × Shared) → CellSeen → Result T FetchFault → List (ℕ × Shared) → Type 0
Keeps old c (Ok x) new = (i : ℕ) → met_in new i ≡ (if c.id == i then Some c else met_in old i)
Keeps old c (Err (Read at faults)) new = ⊥
Keeps old c (Err (Damaged at fault)) new = ⊥
Keeps old c (Err Memory) new = (i : ℕ) → met_in new i ≡ met_in old i
