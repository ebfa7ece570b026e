use Rattle.std.proofs.Common.{◌≡◌, drop, map}
use Rattle.r4_content.specs.Course.{Course, ending}
use Rattle.r4_content.specs.Held.{pairs_of}
use Rattle.r4_content.specs.Seen.{of_seen}
use Rattle.r4_content.specs.Ways.{Place, steps, to_object}
use Rattle.r4_dir.specs.Coming.{IsSmall, object_of}
use Rattle.r4_dir.proofs.ways.walk_to.Given as goal

abbrev pub invariant-loop-name : goal.invariant-loop-name
invariant-loop-name l = record {
  small : IsSmall l.here;
  left : (next : Place → Course) → ending (to_object l.path next) (of_seen (pairs_of l.seen)) ≡ ending (steps (drop l.name-index l.path) next (record { here = object_of l.here; above = map object_of l.above.items })) (of_seen (pairs_of l.seen));
}
