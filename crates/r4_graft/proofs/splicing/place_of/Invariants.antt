use Rattle.std.proofs.Common.{length, ◌-◌, ◌≡◌, ◌+◌}
use Rattle.std.specs.Prelude.{drop}
use Rattle.r4_base.specs.Key.{rank}
use Rattle.r4_graft.specs.Splices.{place}
use Rattle.r4_graft.proofs.splicing.place_of.Given as goal

abbrev pub invariant-loop-count : goal.invariant-loop-count
invariant-loop-count l = l.count + place (rank l.key) (drop l.count l.pieces) ≡ place (rank l.key) l.pieces

abbrev pub decreases-loop-count : goal.decreases-loop-count
decreases-loop-count l = length l.pieces - l.count
