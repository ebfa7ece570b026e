use Rattle.std.proofs.Common.{◌≡◌, drop, map}
use Rattle.r4_dir.specs.Coming.{IsSmall, object_of}
use Rattle.r4_gather.specs.Asking.{StaysOver}
use Rattle.r4_gather.specs.Walking.{IsWalking}
use Rattle.r4_gather.proofs.ways.see_way.Given as goal

abbrev pub invariant-loop-name : goal.invariant-loop-name
invariant-loop-name g l = record {
  small : IsSmall l.here;
  stays : StaysOver (g.S.Sight.device l.fn.sight) (g.S.Sight.device l.sight) (g.S.Sight.over l.fn.sight)
      (g.S.Sight.over l.sight);
  kept : (g.S.Sight.state l.sight).fault ≡ (g.S.Sight.state l.fn.sight).fault;
  walk : IsWalking l.path (drop l.name-index l.path) (g.S.Sight.state l.fn.sight) (g.S.Sight.state l.sight)
      (record { here = object_of l.here; above = map object_of l.above.items });
}
