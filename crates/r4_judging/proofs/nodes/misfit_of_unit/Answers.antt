use Rattle.std.proofs.Common.{◌≡◌, false, map, sym, subst, []}
use Rattle.std.specs.Prelude.{if◌then◌else◌, Bool}
use Rattle.std.specs.Arc.{arc_value}
use Rattle.std.proofs.lemmas.Bool.{ne_eqb}
use Rattle.r4_base.specs.Cell.{run_names}
use Rattle.r4_base.specs.Extents.{is_hole}
use Rattle.r4_base.specs.Key.{rank}
use Rattle.r4_judging.specs.Judging.{IsJudged}
use Rattle.r4_judging.proofs.nodes.misfit_of_unit.Goals as goal

pub returns : goal.returns
returns c =
    let some : is_hole c.args.unit ≡ false = ne_eqb c.args.unit.start 0 c.if-unit-eq0.false in
    subst (λ (b : Bool). IsJudged (if b then [] else run_names (rank c.args.lo) c.args.unit.start c.args.unit.width)
    (map (λ x. arc_value x) c.args.cells.now) c.misfit.result) (sym some) c.misfit.ensures
