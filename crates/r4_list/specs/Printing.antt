-- What is printed over a pool, and why printing stops (docs/program.md, "Listing"). A key is its rank.
use Rattle.std.specs.Prelude.{◌≡◌, ◌↔◌, ℕ, ◌≤◌, List, ◌++◌, Some, IsSome, Result, IfErr}
use Rattle.r4_base.specs.Tree.{Name}
use Rattle.r4_base.specs.declared.items.CellFault.{CellFault}
use Rattle.r4_outside.specs.Device.{Rose, State}
use Rattle.r4_outside.specs.Sink.{SinkState}
use Rattle.r4_cell.specs.declared.change.Root.{Root}
use Rattle.r4_search.specs.Pool.{PoolState, Goes, HasFault, IsFrom, IsNamedFrom, LeavesDevice}
use Rattle.r4_search.specs.Path.{root_name}
use Rattle.r4_search.specs.declared.pool.FetchFault.{FetchFault}
use Rattle.r4_search.specs.declared.pool.FetchFault.TheVariants.{Read, Damaged, Memory as NoRoom}
use Rattle.r4_list.specs.declared.fault.Stop.{Stop}
use Rattle.r4_list.specs.declared.fault.Stop.TheVariants.{Fetch, Sink, Memory}

-- Text was appended, and the count of faults did not fall.
pub record Prints (old new : SinkState) : Type 0 where
  pub told : IsSome new.written ↔ IsSome old.written
  pub faults : old.faults ≤ new.faults
  pub some : (before : List ℕ) → old.written ≡ Some before → (text : List ℕ) × (new.written ≡ Some (before ++ text))

-- A block is refused at the level and range at which cells of the pool lead to it from the root: the pool came to `now`, and then to `later`.
pub record IsDamaged (root : Root) (old : PoolState) (at : ℕ) (fault : CellFault) : Type 0 where
  pub now : PoolState
  pub came : Goes old now
  pub later : PoolState
  pub goes : Goes now later
  pub name : Name
  pub named : IsNamedFrom (root_name root) (IsFrom later) name
  pub block : at ≡ name.id
  pub has : HasFault now name (Some fault)

-- why a cell was not fetched on the way from the root
abbrev pub IsFetchCause : Root → (old : PoolState) → FetchFault → (new : PoolState) → Type 0
IsFetchCause root old (Read at faults) new = Rose old.faults new.faults
IsFetchCause root old (Damaged at fault) new = IsDamaged root old at.0 fault
IsFetchCause root old NoRoom new = Unit {0}

-- why printing stopped
abbrev pub IsCause : Root → (old : PoolState) → SinkState → Stop → (new : PoolState) → SinkState → Type 0
IsCause root old k (Fetch e) new k' = IsFetchCause root old e new
IsCause root old k Sink new k' = Rose k.faults k'.faults
IsCause root old k Memory new k' = Unit {0}

-- why printing stopped that prints nothing
abbrev pub IsPoolCause : Root → (old : PoolState) → Stop → (new : PoolState) → Type 0
IsPoolCause root old (Fetch e) new = IsFetchCause root old e new
IsPoolCause root old Sink new = ⊥
IsPoolCause root old Memory new = Unit {0}

-- What a call does that fetches: nothing is written to the device.
pub record Fetched {T : Type 0} (root : Root) (old : PoolState) (result : Result T FetchFault) (new : PoolState) (before now : State) : Type 0 where
  pub goes : Goes old new
  pub device : LeavesDevice before now
  pub cause : IfErr result (λ e. IsFetchCause root old e new)

-- What a call does that fetches and prints.
pub record Printed {T : Type 0} (root : Root) (old : PoolState) (k : SinkState) (result : Result T Stop) (new : PoolState) (k' : SinkState) (before now : State) : Type 0 where
  pub goes : Goes old new
  pub device : LeavesDevice before now
  pub prints : Prints k k'
  pub cause : IfErr result (λ e. IsCause root old k e new k')
