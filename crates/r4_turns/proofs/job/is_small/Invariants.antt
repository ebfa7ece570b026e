use Rattle.std.proofs.Common.{ℕ, ◌<◌, length, slice_index_or}
use Rattle.r4_turns.specs.Turns.{no_script}
use Rattle.r4_turns.proofs.job.is_small.Given as goal

abbrev pub invariant-loop-script : goal.invariant-loop-script
invariant-loop-script l = (i : ℕ) → i < l.script-index → length (slice_index_or l.scripts i no_script).commands < 4294967296
