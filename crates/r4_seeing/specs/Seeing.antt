-- What a command has seen, and what it asked for (docs/volume.md, "Sight"). A key is its rank.
use Rattle.std.specs.Prelude.{◌≡◌, ℕ, ◌<◌, ◌≤◌, Bool, true, Option, Some, None, Result, Ok, Err}
use Rattle.r4_base.specs.Key.{least, rank, top}
use Rattle.r4_cell.specs.Seen.{CellSeen}
use Rattle.r4_content.specs.Edited.{Intervals, is_in}
use Rattle.r4_content.specs.Held.{pairs_of}
use Rattle.r4_gather.specs.Asking.{Sighting}
use Rattle.r4_search.specs.Pool.{Goes, PoolState}
use Rattle.r4_search.specs.declared.pool.FetchFault.{FetchFault}
use Rattle.r4_seeing.specs.Looking.{LookingSeen}
use Rattle.r4_sight.specs.Stretches.{StopsAt}

-- what contracts see: what was seen, what was asked for, the newest first, and the fault with which a look-up ended
pub record SeeingSeen (P : Type 0) : Type 0 where
  pub looking : LookingSeen P
  pub asked : Intervals
  pub fault : Option FetchFault

abbrev pub sighting : {P : Type 0} → SeeingSeen P → Sighting
sighting s = record { seen = pairs_of s.looking.seen; asked = s.asked; fault = s.fault }

-- A look-up ended with the fault at a key that was asked for.
pub record IsStopped (p : PoolState) (asked : Intervals) (e : FetchFault) : Type 0 where
  pub key : ℕ
  pub is_asked : is_in asked key ≡ true
  pub before : PoolState
  pub at : PoolState
  pub goes : Goes before at
  pub stops : StopsAt key before e at
  pub since : Goes at p

-- a key that was asked for lies in the cell's range
abbrev pub IsAskedIn : (asked : Intervals) → CellSeen → Type 0
IsAskedIn asked c = (key : ℕ) × (is_in asked key ≡ true) × (rank c.lo ≤ key) × (key < rank c.hi)

-- While no look-up ended with a fault, each key of the tree that was asked for is known. No other key was looked at,
-- and each cell that was met has a key that was asked for.
pub record IsSeeing (p : PoolState) (known asked : Intervals) (fault : Option FetchFault)
    : Type 0 where
  pub looked : fault ≡ None → (k : ℕ) → is_in asked k ≡ true → least ≤ k → k < top
      → is_in known k ≡ true
  pub only : (k : ℕ) → is_in known k ≡ true → is_in asked k ≡ true
  pub met : (i : ℕ) (c : CellSeen) → p.met i ≡ Some c → IsAskedIn asked c
  pub stopped : (e : FetchFault) → fault ≡ Some e → IsStopped p asked e

-- a fault with which a look-up ended is kept
abbrev pub IsNotedFault : Option FetchFault → Result Unit FetchFault → Option FetchFault → Type 0
IsNotedFault old (Ok u) new = new ≡ old
IsNotedFault old (Err e) new = new ≡ Some e
