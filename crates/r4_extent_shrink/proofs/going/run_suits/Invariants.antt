use Rattle.std.proofs.Common.{◌≡◌, ◌+◌, ◌*◌, ◌-◌, map}
use Rattle.std.specs.Arc.{arc_value}
use Rattle.std.specs.List.{list_all}
use Rattle.r4_base.specs.Cell.{run_names}
use Rattle.r4_base.specs.Key.{rank}
use Rattle.r4_extent_shrink.specs.Going.{name_suits}
use Rattle.r4_extent_shrink.proofs.going.run_suits.Given as goal

abbrev pub invariant-loop-i : goal.invariant-loop-i
invariant-loop-i l = list_all (name_suits (rank l.fn.gone.from) (rank l.fn.gone.to) (map (λ c. arc_value c) l.fn.cells)) (run_names (rank l.fn.key) l.fn.unit.start l.fn.unit.width)
    ≡ list_all (name_suits (rank l.fn.gone.from) (rank l.fn.gone.to) (map (λ c. arc_value c) l.fn.cells)) (run_names (rank l.fn.key + 4096 * l.i) (l.fn.unit.start + l.i) (l.fn.unit.width - l.i))
