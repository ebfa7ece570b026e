use Rattle.std.proofs.Common.{◌≡◌, drop, map}
use Rattle.std.specs.Arc.{arc_value}
use Rattle.std.specs.List.{list_all}
use Rattle.r4_content.specs.Held.{interval_of}
use Rattle.r4_extent_growth.specs.Lying.{cut_lies}
use Rattle.r4_extent_growth.proofs.lying.cuts_lie.Given as goal

abbrev pub invariant-loop-cut : goal.invariant-loop-cut
invariant-loop-cut l = list_all (cut_lies (map (λ c. arc_value c) l.fn.cells)) (map interval_of l.fn.cuts)
    ≡ list_all (cut_lies (map (λ c. arc_value c) l.fn.cells)) (map interval_of (drop l.cut-index l.fn.cuts))
