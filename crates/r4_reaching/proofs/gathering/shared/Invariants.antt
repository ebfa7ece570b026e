use Rattle.std.proofs.Common.{◌≡◌, ◌++◌, map, vec_items}
use Rattle.std.specs.Arc.{arc_value}
use Rattle.std.specs.Map.{values_of}
use Rattle.r4_reaching.proofs.gathering.shared.Given as goal

abbrev pub invariant-loop-cell : goal.invariant-loop-cell
invariant-loop-cell l = map (λ c. arc_value c) (vec_items l.cells) ++ map (λ c. arc_value c) l.cell-iterator
    ≡ map (λ c. arc_value c) (values_of l.met.entries)
