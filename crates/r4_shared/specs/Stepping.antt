-- The steps of a run, each of which any core allows (docs/core.md, "Threads").
use Rattle.std.specs.Prelude.{◌≡◌, ◌⊎◌, Result, Ok, Err}
use Rattle.r4_apply.specs.Applying.{Applies}
use Rattle.r4_apply.specs.declared.applying.Applied.{Applied}
use Rattle.r4_apply.specs.declared.applying.Applied.TheVariants as applied
use Rattle.r4_apply.specs.r4_back.Backing.{GivesBack, RefusesMemory}
use Rattle.r4_base.specs.declared.things.AtomNo.{AtomNo}
use Rattle.r4_apply.specs.r4_build.declared.built.Built.{Built}
use Rattle.r4_apply.specs.r4_build.declared.task.BuildFault.{BuildFault}
use Rattle.r4_apply.specs.r4_kept.View.{CoreSeen}
use Rattle.r4_apply.specs.r4_next.Taking.{Takes}
use Rattle.r4_apply.specs.r4_next.declared.taken.Taken.TheVariants as taken
use Rattle.r4_outside.specs.Device.{State}
use Rattle.r4_apply.specs.r4_seal.Flushing.{IsFlushed, RefusesWaiting}
use Rattle.r4_apply.specs.r4_served.Serving.{IsLeft}
use Rattle.r4_apply.specs.r4_take.Sending.{CanBeBuilt}
use Rattle.r4_shared.specs.declared.stepping.Next.{Next}
use Rattle.r4_shared.specs.declared.stepping.Next.TheVariants as next

-- An atom was flushed; or it was not, and the commands that wait for it were refused.
abbrev pub IsFlushedAs : {D : Type 0} → (old new : CoreSeen D) → AtomNo → Next → Type 0
IsFlushedAs old new atom n =
    ((n ≡ next.Flushed atom) × IsFlushed old new atom)
    ⊎ ((n ≡ next.Unflushed atom) × RefusesWaiting old new atom)

-- What there is to do was taken; an atom that was to be flushed was.
abbrev pub IsNext : {D : Type 0} → (D → State) → (old new : CoreSeen D) → Next → Type 0
IsNext state old new (next.Work task) = Takes state old new (taken.Work task)
IsNext state old new (next.Replied s) = Takes state old new (taken.Replied s)
IsNext {D} state old new (next.Flushed atom) = (mid : CoreSeen D)
    × Takes state old mid (taken.Flush atom) × IsFlushed mid new atom
IsNext {D} state old new (next.Unflushed atom) = (mid : CoreSeen D)
    × Takes state old mid (taken.Flush atom) × RefusesWaiting mid new atom
IsNext state old new (next.Wait why) = Takes state old new (taken.Wait why)
IsNext state old new next.Finished = Takes state old new taken.Finished

-- Nothing was done: all is as it was; or the device may have been read, and there may be more room.
abbrev pub IsNextLeft : {D : Type 0} → (D → State) → (old new : CoreSeen D) → Type 0
IsNextLeft {D} state old new =
    (new ≡ old)
    ⊎ IsLeft (state old.dev) (state new.dev) old new

-- a task that is to be worked at can be built
abbrev pub BuildsNext : Next → Type 0
BuildsNext (next.Work task) = CanBeBuilt task
BuildsNext n = Unit {0}

-- What was built was applied, or changed nothing and was given back.
abbrev pub AppliesOr : {D : Type 0} → (old new : CoreSeen D) → Built → Applied → Type 0
AppliesOr {D} old new built (applied.Stale task node differs) = (mid : CoreSeen D)
    × Applies old mid built (applied.Stale task node differs) × GivesBack mid new task
AppliesOr old new built a = Applies old new built a

-- A task came back, built or for want of memory as it went out.
abbrev pub BringsBack : {D : Type 0} → (old new : CoreSeen D) → Result Built BuildFault → Type 0
BringsBack old new (Ok built) = (a : Applied) × AppliesOr old new built a
BringsBack old new (Err fault) = RefusesMemory old new fault.task
