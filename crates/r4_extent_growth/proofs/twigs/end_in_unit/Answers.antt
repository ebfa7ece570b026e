use Rattle.std.proofs.Common.{◌≡◌, false, ap, arith, length, sym, ◌∙◌}
use Rattle.std.specs.Prelude.{◌==◌, is_some}
use Rattle.std.proofs.lemmas.Bool.{eqb-false}
use Rattle.r4_base.specs.Key.{rank}
use Rattle.r4_twig_asks.proofs.r4_extent_demands.Cuts.{last_at}
use Rattle.r4_twig_asks.proofs.r4_extent_demands.Nothing.{nothing}
use Rattle.r4_extent_growth.proofs.Tests.{some_mapped}
use Rattle.r4_extent_growth.proofs.twigs.end_in_unit.Goals as goal

pub returns : goal.returns
returns c =
    let ps = c.args.pieces.now in
    let none : (length ps == 0) ≡ false = sym c.is_empty.ensures ∙ c.if-is_empty.false in
    let some = eqb-false (length ps) 0 none in
    c.is_some.ensures ∙ (some_mapped rank c.unit_end.result ∙ ap is_some (c.unit_end.ensures ∙ sym (last_at ps nothing (omega (arith, some)))))
