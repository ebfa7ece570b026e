-- What a command's course asks for, one interval of keys after another, and how far it has come
-- (docs/commands.md, "Asking"). A key is its rank.
use Rattle.std.specs.Prelude.{◌≡◌, ◌⊎◌, ℕ, ◌+◌, ◌-◌, List, ◌∷◌, Bool, true, ◌&&◌, ◌==◌, drop}
use Rattle.std.specs.Prelude.{length, Option, None, Some}
use Rattle.std.specs.List.{list_any}
use Rattle.std.specs.FinMap.{find}
use Rattle.std.specs.Ordering.{nat_cmp}
use Rattle.r4_content.specs.Course.{Answer, Ask, Change, Course, Scan, Source}
use Rattle.r4_content.specs.Edited.{Intervals, Pairs}
use Rattle.r4_content.specs.Objects.{Object}
use Rattle.r4_content.specs.Seen.{of_seen}
use Rattle.r4_content.specs.Ways.{Place, to_ends, to_entry, to_free, to_parent}
use Rattle.r4_content.specs.declared.reply.Reply.{Reply}
use Rattle.r4_dir.specs.Coming.{last_of}
use Rattle.r4_search.specs.r4_cell.Seen.{CellSeen}
use Rattle.r4_search.specs.r4_cell.declared.change.Root.{Root}
use Rattle.r4_outside.specs.Device.{State}
use Rattle.r4_search.specs.Pool.{IsRead, LeavesDevice, PoolState}
use Rattle.r4_search.specs.declared.pool.FetchFault.{FetchFault}
use Rattle.r4_search.specs.declared.pool.FetchFault.TheVariants.{Memory}

-- what was seen, what was asked for, the newest first, and the fault with which a look-up ended last
pub record Sighting : Type 0 where
  pub seen : Pairs
  pub asked : Intervals
  pub fault : Option FetchFault

-- the root of the tree that is seen, and the pool of its cells
pub record Over : Type 0 where
  pub root : Root
  pub pool : PoolState

-- Nothing was written, it is the same tree, and each name of its pool means what it meant. What is
-- kept besides is what its name meant.
pub record IsSameTree (d e : State) (old new : Over) : Type 0 where
  pub device : LeavesDevice d e
  pub root : new.root ≡ old.root
  pub named : new.pool.root ≡ old.pool.root
  pub blocks : new.pool.blocks ≡ old.pool.blocks
  pub meant : (i : ℕ) → new.pool.meant i ≡ old.pool.meant i
  pub kept : (i : ℕ) (c : CellSeen) → old.pool.kept i ≡ Some c → new.pool.kept i ≡ Some c
  pub added : (i : ℕ) (c : CellSeen) → new.pool.kept i ≡ Some c → old.pool.kept i ≡ None
      → (c.id ≡ i) × IsRead old.pool.blocks (old.pool.meant i) c
  pub keeps : (level : ℕ) → new.pool.keeps level ≡ old.pool.keeps level

-- the same, as one fact, which is not looked into on the way
unfoldable pub StaysOver : (d e : State) → (old new : Over) → Type 0
StaysOver d e old new = IsSameTree d e old new

-- A fault is the one with which a look-up ended, or there was no memory.
abbrev pub IsCause : FetchFault → Sighting → Type 0
IsCause e s = (e ≡ Memory) ⊎ (s.fault ≡ Some e)

-- what was asked for, with all that the course asks for besides, the newest first
abbrev pub asking : Course → Source → Intervals → Intervals
asking (Ask k next) s g = asking (next (s.value k)) s ((k, k + 1) ∷ g)
asking (Scan from to next) s g = asking (next (s.pairs from to)) s ((from, to) ∷ g)
asking (Answer r) s g = g
asking (Change e) s g = g

abbrev pub has : Intervals → ℕ × ℕ → Bool
has g r = list_any (λ q. (q.0 == r.0) && (q.1 == r.1)) g

-- More was asked for, and what was seen at a key that was asked for stays.
pub record IsLater (old new : Sighting) : Type 0 where
  pub keeps : (r : ℕ × ℕ) → has old.asked r ≡ true → has new.asked r ≡ true
  pub values : (k : ℕ) → has old.asked (k, k + 1) ≡ true
      → find nat_cmp k new.seen ≡ find nat_cmp k old.seen

-- These were asked for first: they stand last.
abbrev pub EndsIn : (first all : Intervals) → Type 0
EndsIn first all = drop (length all - length first) all ≡ first

-- ---- whatever is asked for besides

-- Just what the course asks for was asked for.
abbrev pub HasAsked : Course → (old new : Sighting) → Type 0
HasAsked c old new = (last : Sighting) → IsLater new last
    → asking c (of_seen last.seen) old.asked ≡ new.asked

-- So far was asked for what the course asks for, in its order.
abbrev pub StopsIn : Course → (old new : Sighting) → Type 0
StopsIn c old new = (last : Sighting) → IsLater new last
    → EndsIn new.asked (asking c (of_seen last.seen) old.asked)

-- The way has come to a: whatever follows asks on from there.
abbrev pub IsAt : {A : Type 0} → ((A → Course) → Course) → (old new : Sighting) → A → Type 0
IsAt {A} way old new a = (next : A → Course) (last : Sighting) → IsLater new last
    → asking (way next) (of_seen last.seen) old.asked ≡ asking (next a) (of_seen last.seen) new.asked

-- The way has ended, and nothing follows.
abbrev pub HasEnded : {A : Type 0} → ((A → Course) → Course) → (old new : Sighting) → Type 0
HasEnded {A} way old new = (next : A → Course) → HasAsked (way next) old new

-- The way was broken off.
abbrev pub IsStopped : {A : Type 0} → ((A → Course) → Course) → (old new : Sighting) → Type 0
IsStopped {A} way old new = (next : A → Course) → StopsIn (way next) old new

-- ---- the same of ways that come to more than a place

abbrev pub IsAtParent : Reply → List (List ℕ) → (old new : Sighting) → Place → Type 0
IsAtParent r path old new p = (next : Place → List ℕ → Course) (last : Sighting) → IsLater new last
    → asking (to_parent r path next) (of_seen last.seen) old.asked
    ≡ asking (next p (last_of path)) (of_seen last.seen) new.asked

abbrev pub HasEndedParent : Reply → List (List ℕ) → (old new : Sighting) → Type 0
HasEndedParent r path old new = (next : Place → List ℕ → Course)
    → HasAsked (to_parent r path next) old new

abbrev pub IsStoppedParent : Reply → List (List ℕ) → (old new : Sighting) → Type 0
IsStoppedParent r path old new = (next : Place → List ℕ → Course)
    → StopsIn (to_parent r path next) old new

abbrev pub IsAtEntry : Reply → List (List ℕ) → (old new : Sighting) → (dir : Object) → Place → Type 0
IsAtEntry r path old new dir p = (next : Object → List ℕ → Place → Course) (last : Sighting)
    → IsLater new last → asking (to_entry r path next) (of_seen last.seen) old.asked
    ≡ asking (next dir (last_of path) p) (of_seen last.seen) new.asked

abbrev pub HasEndedEntry : Reply → List (List ℕ) → (old new : Sighting) → Type 0
HasEndedEntry r path old new = (next : Object → List ℕ → Place → Course)
    → HasAsked (to_entry r path next) old new

abbrev pub IsStoppedEntry : Reply → List (List ℕ) → (old new : Sighting) → Type 0
IsStoppedEntry r path old new = (next : Object → List ℕ → Place → Course)
    → StopsIn (to_entry r path next) old new

abbrev pub IsAtEnds : (from to : List (List ℕ)) → (old new : Sighting)
    → (dir object new_dir : Object) → Type 0
IsAtEnds from to old new dir o new_dir =
    (next : Object → List ℕ → Object → Object → List ℕ → Course) (last : Sighting)
    → IsLater new last → asking (to_ends from to next) (of_seen last.seen) old.asked
    ≡ asking (next dir (last_of from) o new_dir (last_of to)) (of_seen last.seen) new.asked

abbrev pub HasEndedEnds : (from to : List (List ℕ)) → (old new : Sighting) → Type 0
HasEndedEnds from to old new = (next : Object → List ℕ → Object → Object → List ℕ → Course)
    → HasAsked (to_ends from to next) old new

abbrev pub IsStoppedEnds : (from to : List (List ℕ)) → (old new : Sighting) → Type 0
IsStoppedEnds from to old new = (next : Object → List ℕ → Object → Object → List ℕ → Course)
    → StopsIn (to_ends from to next) old new

-- ---- what follows asks for nothing

abbrev pub IsQuiet : Course → Type 0
IsQuiet c = (s : Source) (g : Intervals) → asking c s g ≡ g

-- To where a name is free, for what asks for nothing there.
abbrev pub HasAskedFree : List (List ℕ) → (old new : Sighting) → Type 0
HasAskedFree path old new = (next : Object → List ℕ → Course)
    → ((dir : Object) (n : List ℕ) → IsQuiet (next dir n)) → HasAsked (to_free path next) old new

abbrev pub StopsFree : List (List ℕ) → (old new : Sighting) → Type 0
StopsFree path old new = (next : Object → List ℕ → Course) → StopsIn (to_free path next) old new
