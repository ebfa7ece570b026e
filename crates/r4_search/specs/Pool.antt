-- What a pool of cells tells, and what its calls do to that (docs/volume.md, "The tree"). A key is its rank.
use Rattle.std.specs.Prelude.{◌≡◌, ◌⊎◌, ℕ, ◌+◌, ◌-◌, ◌^◌, ◌<◌, ◌≤◌, ◌==◌, ◌&&◌, not, if◌then◌else◌, min, List, [], ◌∷◌, Bool, true, false, All, Contains, Option, Some, None, IsSome, Result, Ok, Err, IfOk, IfErr}
use Rattle.r4_base.specs.Key.{rank}
use Rattle.r4_base.specs.Cell.{cell_fault}
use Rattle.r4_base.specs.Tree.{Name}
use Rattle.r4_base.specs.declared.key.Key.{Key}
use Rattle.r4_base.specs.declared.items.CellFault.{CellFault}
use Rattle.r4_base.specs.declared.items.CellFault.TheVariants.{Level, Range}
use Rattle.r4_outside.specs.Device.{State, Goes as DeviceGoes, Untouched}
use Rattle.r4_cell.specs.Seen.{CellSeen, node_of}
use Rattle.r4_search.specs.declared.pool.FetchFault.{FetchFault}
use Rattle.r4_search.specs.declared.pool.FetchFault.TheVariants.{Read, Damaged, Memory}

-- What a pool tells of itself.
pub record PoolState : Type 0 where
  -- the root of its tree, as it is asked for
  pub root : Name
  -- the number of blocks
  pub blocks : ℕ
  -- the number of failed calls of its device
  pub faults : ℕ
  -- the cells that it keeps, by their names
  pub kept : ℕ → Option CellSeen
  -- the block that a name means while it is not kept, where that is told
  pub meant : ℕ → Option (List ℕ)
  -- the cells that were met: those that it answered and keeps
  pub met : ℕ → Option CellSeen
  -- whether it keeps a cell of a level that it answered
  pub keeps : ℕ → Bool

-- Nothing was written to the device of a pool.
pub record LeavesDevice (old new : State) : Type 0 where
  pub goes : DeviceGoes old new
  pub idle : Untouched old new

-- one that is asked for, as a cell names it
abbrev pub called : (id level : ℕ) → Key → Key → Name
called id level lo hi = record { id = id; level = level; lo = rank lo; hi = rank hi }

-- why a kept cell is not the one that is asked for
abbrev pub place_fault : Name → CellSeen → Option CellFault
place_fault n c = if not (c.level == n.level) then Some Level else if rank c.lo == n.lo && rank c.hi == n.hi then None else Some (Range 0)

-- what the fault is by which this one is refused: its kept cell's, else that of the block that it means
abbrev pub FaultIs : (blocks : ℕ) → Name → (kept : Option CellSeen) → (meant : Option (List ℕ)) → Option CellFault → Type 0
FaultIs blocks n (Some c) meant f = f ≡ place_fault n c
FaultIs blocks n None (Some b) f = f ≡ cell_fault false blocks n.level n.lo n.hi b
FaultIs blocks n None None f = Unit {0}

abbrev pub HasFault : PoolState → Name → Option CellFault → Type 0
HasFault p n f = FaultIs p.blocks n (p.kept n.id) (p.meant n.id) f

-- the cell may stand on a disk of so many blocks, and is of the block that is meant, where that is told
abbrev pub IsRead : (blocks : ℕ) → (meant : Option (List ℕ)) → CellSeen → Type 0
IsRead blocks None c = cell_fault false blocks c.level (rank c.lo) (rank c.hi) c.block ≡ None
IsRead blocks (Some b) c = (c.block ≡ b) × (cell_fault false blocks c.level (rank c.lo) (rank c.hi) b ≡ None)

-- the cell has this name, level and range
pub record IsNamed (n : Name) (c : CellSeen) : Type 0 where
  pub id : c.id ≡ n.id
  pub level : c.level ≡ n.level
  pub lo : rank c.lo ≡ n.lo
  pub hi : rank c.hi ≡ n.hi

-- The pool keeps the cell, or its block is the one that its name means.
abbrev pub IsFrom : PoolState → CellSeen → Type 0
IsFrom p c = (p.kept c.id ≡ Some c) ⊎ IsRead p.blocks (p.meant c.id) c

-- Cells lead from the root down to a name, the lowest first: it names what is asked for, and the one behind it names it, with its level and range.
abbrev pub LeadTo : (root : Name) → List CellSeen → Name → Type 0
LeadTo root [] n = n ≡ root
LeadTo root (c ∷ above) n = Contains (node_of c).names n × ((m : Name) × IsNamed m c × LeadTo root above m)

-- The name is the root's, or cells of this kind lead to it from there.
pub record IsNamedFrom (root : Name) (P : CellSeen → Type 0) (n : Name) : Type 0 where
  pub cells : List CellSeen
  pub all : All P cells
  pub lead : LeadTo root cells n

-- The name can be asked for: its block stands, and cells of the pool lead to it from the root.
pub record IsKnown (p : PoolState) (n : Name) : Type 0 where
  pub stands : IsSome (p.kept n.id) ⊎ (n.id < p.blocks)
  pub named : IsNamedFrom p.root (IsFrom p) n

-- Cells of the pool lead to each that it keeps.
abbrev pub HangsTogether : PoolState → Type 0
HangsTogether p = (i : ℕ) (c : CellSeen) → p.kept i ≡ Some c → (n : Name) × IsNamed n c × IsNamedFrom p.root (IsFrom p) n

abbrev pub IsKeptOrRead : (blocks : ℕ) → (kept : Option CellSeen) → (meant : Option (List ℕ)) → CellSeen → Type 0
IsKeptOrRead blocks (Some k) meant c = c ≡ k
IsKeptOrRead blocks None meant c = IsRead blocks meant c

-- The cell is what the pool has under its name: the one that is kept, else one of the block that the name means.
abbrev pub IsOf : PoolState → CellSeen → Type 0
IsOf p c = IsKeptOrRead p.blocks (p.kept c.id) (p.meant c.id) c

-- A count is higher by one or more, or stands at its end.
abbrev pub Rose : ℕ → ℕ → Type 0
Rose before now = min (before + 1) (2 ^ 64 - 1) ≤ now

-- What every call keeps: what each name means, the cells that are kept, and what can be asked for. What is kept from then on is what its name
-- meant, and hangs together with the rest.
pub record Goes (old new : PoolState) : Type 0 where
  pub root : new.root ≡ old.root
  pub blocks : new.blocks ≡ old.blocks
  pub faults : old.faults ≤ new.faults
  pub meant : (i : ℕ) → new.meant i ≡ old.meant i
  pub kept : (i : ℕ) (c : CellSeen) → old.kept i ≡ Some c → new.kept i ≡ Some c
  pub added : (i : ℕ) (c : CellSeen) → new.kept i ≡ Some c → old.kept i ≡ None → (c.id ≡ i) × IsRead old.blocks (old.meant i) c
  pub known : (n : Name) → IsKnown old n → IsKnown new n
  pub hangs : HangsTogether old → HangsTogether new
  pub met : (i : ℕ) (c : CellSeen) → old.met i ≡ Some c → new.met i ≡ Some c
  pub added_met : (i : ℕ) (c : CellSeen) → new.met i ≡ Some c → old.met i ≡ None → c.id ≡ i
  pub keeps : (level : ℕ) → new.keeps level ≡ old.keeps level

-- what the cell names can be asked for
abbrev pub KnowsNames : PoolState → CellSeen → Type 0
KnowsNames p c = (m : Name) → Contains (node_of c).names m → IsKnown p m

-- it may stand at its level and range, in memory
abbrev pub StandsInMemory : CellSeen → Type 0
StandsInMemory c = cell_fault true (2 ^ 64) c.level (rank c.lo) (rank c.hi) c.block ≡ None

-- The cell that was asked for. What it names can be asked for.
pub record IsAnswer (n : Name) (old : PoolState) (c : CellSeen) (new : PoolState) : Type 0 where
  pub named : IsNamed n c
  pub is_of : IsOf old c
  pub stands : StandsInMemory c
  pub knows : KnowsNames new c

-- Why it is refused: a device failed, or it has a fault.
abbrev pub IsRefused : Name → PoolState → FetchFault → PoolState → Type 0
IsRefused n old (Read at faults) new = (old.kept n.id ≡ None) × (at.0 ≡ n.id) × Rose old.faults new.faults × (faults ≡ new.faults)
IsRefused n old (Damaged at fault) new = (at.0 ≡ n.id) × HasFault old n (Some fault)
IsRefused n old Memory new = Unit {0}

-- nothing is kept from then on but the answer
abbrev pub IsThat : {T : Type 0} → (T → CellSeen) → Result T FetchFault → CellSeen → Type 0
IsThat seen (Ok x) c = c ≡ seen x
IsThat seen (Err e) c = ⊥

-- `fetch`
pub record Fetches {T : Type 0} (seen : T → CellSeen) (n : Name) (old : PoolState) (result : Result T FetchFault)
    (new : PoolState) : Type 0 where
  pub goes : Goes old new
  pub only : (i : ℕ) (c : CellSeen) → new.kept i ≡ Some c → old.kept i ≡ None → IsThat seen result c
  pub only_met : (i : ℕ) (c : CellSeen) → new.met i ≡ Some c → old.met i ≡ None → IsThat seen result c
  -- where cells of its level are not kept, nothing more is
  pub still : old.keeps n.level ≡ false → (i : ℕ) → new.kept i ≡ old.kept i
  pub ok : IfOk result (λ x. IsAnswer n old (seen x) new)
  -- and where they are, the cell was met from then on
  pub met : IfOk result (λ x. old.keeps n.level ≡ true → new.met n.id ≡ Some (seen x))
  pub err : IfErr result (λ e. IsRefused n old e new)

-- the pool keeps nothing that it answers
abbrev pub KeepsNone : PoolState → Type 0
KeepsNone p = (level : ℕ) → p.keeps level ≡ false

-- the cell was met, if cells of its level are kept
abbrev pub IsMet : PoolState → CellSeen → Type 0
IsMet p c = p.keeps c.level ≡ true → p.met c.id ≡ Some c
