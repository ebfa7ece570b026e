-- What holds of every table of turns.
use Rattle.std.specs.Prelude.{◌≡◌, ℕ, ◌<◌, ◌≤◌, ◌≢◌, List, length, slice_index_or, Option, Some, None}
use Rattle.r4_base.specs.declared.things.ScriptNo.{ScriptNo}
use Rattle.r4_script.specs.declared.job.Job.{Job}
use Rattle.r4_turns.specs.declared.turn.Turn.{Turn}
use Rattle.r4_turns.specs.Turns.{IsBefore, IsBehind, TurnsSeen, no_script, start}

-- Each script has its turn, the numbers of scripts and of commands fit, and no more commands are answered than there are.
pub record AreTurns (job : Job) (turns : List Turn) : Type 0 where
  pub each : length turns ≡ length job.scripts
  pub few : length turns < 4294967296
  pub small : (i : ℕ) → length (slice_index_or job.scripts i no_script).commands < 4294967296
  pub within : (i : ℕ) → (slice_index_or turns i start).answered ≤ length (slice_index_or job.scripts i no_script).commands

-- Of the scripts up to number `end`, it is the first that stands behind the last one.
abbrev pub IsFirstUpTo : TurnsSeen → (last : Option ScriptNo) → (end : ℕ) → Option ScriptNo → Type 0
IsFirstUpTo t last end None = (s : ℕ) → s ≤ end → IsBehind t last s → ⊥
IsFirstUpTo t last end (Some first) =
    IsBehind t last first.0 × (first.0 ≤ end) × ((s : ℕ) → s ≤ end → IsBehind t last s → s ≢ first.0 → IsBefore t first.0 s)
