-- Group G, what a crash leaves, in a run that names its beginning and the clock of then, on a
-- device that tells it (docs/durable.md).
use Rattle.std.specs.Prelude.{ℕ, Option, Some, None}
use Rattle.r4_durable.specs.r4_commit.Planned.{CommitSeen}
use Rattle.r4_content.specs.Locality.{commands}
use Rattle.r4_content.specs.Meaning.{greatest_size}
use Rattle.r4_durable.specs.Meaning.{Beginning, means}
use Rattle.r4_outside.specs.Device.{IsQuiet, State}
use Rattle.r4_history.specs.r4_trace.Safe.{IsSafeFrom}
use Rattle.r4_durable.specs.r4_wander.Progress.{Stands}
use Rattle.r4_kept.specs.Story.{Flush, Story}
use Rattle.r4_kept.specs.View.{CoreSeen}
use Rattle.r4_kept.specs.declared.parts.Commit.{Commit}

-- the device is where the writer of the commit is; an atom without cells writes nothing
abbrev pub StandsAt : State → Option Flush → Option CommitSeen → Type 0
StandsAt d flush None = IsQuiet d
StandsAt d None (Some w) = ⊥
StandsAt d (Some f) (Some w) = Stands w.work f.work.base d

-- after a call of the device failed nothing is said
abbrev pub LeavesNow : State → Option Flush → (broken : Option ℕ) → Option Commit → Type 0
LeavesNow d flush (Some clock) commit = Unit {0}
LeavesNow d flush None None = IsQuiet d
LeavesNow d flush None (Some k) = StandsAt d flush k.work

pub record IsDurable {D : Type 0}
    (b : Beginning) (t : ℕ) (d : State) (c : CoreSeen D) (story : Story) : Type 0
  where
    -- from the clock t on a crash left what some number of atoms made, with all that were committed
    pub each : IsSafeFrom (means b) (commands greatest_size) b.content t c.trace.entries d
    -- and now it leaves what is read, or what the commit has written so far
    pub now : LeavesNow d story.flush c.broken c.commit
