use Rattle.std.proofs.Common.{map}
use Rattle.std.specs.Arc.{arc_value}
use Rattle.r4_base.specs.Key.{rank}
use Rattle.r4_row_gather.specs.Finding.{IsRowFrom}
use Rattle.r4_row_gather.proofs.finding.row_among.Given as goal

abbrev pub invariant-loop : goal.invariant-loop
invariant-loop l = IsRowFrom (map (λ c. arc_value c) l.fn.cells) l.fn.level (rank l.fn.from) (rank l.hi)
    (map (λ c. arc_value c) l.row.items)
