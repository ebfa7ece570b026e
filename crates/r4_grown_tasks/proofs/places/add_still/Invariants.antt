use Rattle.std.proofs.Common.{◌≡◌, ◌++◌, drop, map, take}
use Rattle.std.specs.Arc.{arc_value}
use Rattle.r4_content.specs.Held.{interval_of}
use Rattle.r4_grown_tasks.specs.Places.{AreRead, still}
use Rattle.r4_grown_tasks.proofs.places.add_still.Given as goal

abbrev pub invariant-loop-cell : goal.invariant-loop-cell
invariant-loop-cell l = record {
  added : map interval_of l.places.items
      ≡ map interval_of l.fn.places.items ++ still l.fn.body (map (λ c. arc_value c) (take l.cell-index l.fn.reads));
  read : AreRead (map (λ c. arc_value c) (drop l.cell-index l.fn.reads))
      → AreRead (map (λ c. arc_value c) l.fn.reads);
}
