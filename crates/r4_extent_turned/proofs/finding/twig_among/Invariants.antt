use Rattle.std.proofs.Common.{◌≡◌, drop, map}
use Rattle.std.specs.Arc.{arc_value}
use Rattle.std.specs.Prelude.{find}
use Rattle.r4_extent_turned.specs.Finding.{is_twig_of}
use Rattle.r4_extent_turned.proofs.finding.twig_among.Given as goal

abbrev pub invariant-loop-cell : goal.invariant-loop-cell
invariant-loop-cell l = find (is_twig_of l.fn.body) (map (λ c. arc_value c) l.fn.cells)
    ≡ find (is_twig_of l.fn.body) (map (λ c. arc_value c) (drop l.cell-index l.fn.cells))
