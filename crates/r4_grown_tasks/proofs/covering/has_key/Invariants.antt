use Rattle.std.proofs.Common.{◌≡◌, drop, map}
use Rattle.r4_base.specs.Key.{rank}
use Rattle.r4_content.specs.Edited.{is_in}
use Rattle.r4_content.specs.Held.{interval_of}
use Rattle.r4_grown_tasks.proofs.covering.has_key.Given as goal

abbrev pub invariant-loop-place : goal.invariant-loop-place
invariant-loop-place l = is_in (map interval_of l.fn.places) (rank l.fn.key)
    ≡ is_in (map interval_of (drop l.place-index l.fn.places)) (rank l.fn.key)
