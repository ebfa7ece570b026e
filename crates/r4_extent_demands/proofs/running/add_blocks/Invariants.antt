use Rattle.std.proofs.Common.{◌≡◌, ◌+◌, ◌-◌, ◌*◌, ◌++◌, ◌≤◌}
use Rattle.r4_base.specs.Key.{rank}
use Rattle.r4_content.specs.Held.{edits_of}
use Rattle.r4_bodies.specs.r4_leaf_edits.r4_reach.Needs.{gets_bytes, runs}
use Rattle.r4_extent_demands.proofs.running.add_blocks.Given as goal

abbrev pub invariant-loop-done : goal.invariant-loop-done
invariant-loop-done l = record {
  within : l.done ≤ l.count;
  items : l.pieces.items ++ runs (gets_bytes l.body (edits_of l.edits)) (rank l.from + 4096 * l.done) (l.count - l.done)
      ≡ l.fn.pieces.items ++ runs (gets_bytes l.body (edits_of l.edits)) (rank l.from) l.count;
}

abbrev pub decreases-loop-done : goal.decreases-loop-done
decreases-loop-done l = l.count - l.done
