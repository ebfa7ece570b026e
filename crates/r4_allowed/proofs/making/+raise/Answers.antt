use Rattle.std.proofs.Common.{arith, map}
use Rattle.std.proofs.lemmas.Result.{on_ok_weaker}
use Rattle.std.specs.Arc.{arc_value}
use Rattle.r4_allowed.specs.Table.{budget_of}
use Rattle.r4_allowed.proofs.Raised.{level_levels, level_raised, twigs_alone}
use Rattle.r4_allowed.proofs.making.+raise.Goals as goal

pub returns-then-top-le-TWIG-clause-raised : goal.returns-then-top-le-TWIG-clause-raised
returns-then-top-le-TWIG-clause-raised t c =
    let low = c.if-top-le-TWIG.true in
    twigs_alone c.args.top (map (λ x. arc_value x) c.args.cells.now) c.args.table.now.items (omega (arith, low)) c.requires

pub returns-clause-raised : goal.returns-clause-raised
returns-clause-raised t c =
    let high = c.if-top-le-TWIG.false in
    on_ok_weaker c.add_level.result (λ is.
    level_raised c.args.top (map (λ x. arc_value x) c.args.cells.now) (budget_of c.args.table.now.items 2) c.raise.new.table.items
    c.add_level.new.table.items (omega (arith, high)) c.in_ok-raise.ensures.raised c.in_ok-raise.ensures.levels is)
    c.add_level.ensures

pub returns-clause-levels : goal.returns-clause-levels
returns-clause-levels t c =
    let high = c.if-top-le-TWIG.false in
    on_ok_weaker c.add_level.result (λ is.
    level_levels c.args.top (map (λ x. arc_value x) c.args.cells.now) (budget_of c.args.table.now.items 2) c.raise.new.table.items
    c.add_level.new.table.items (omega (arith, high)) c.in_ok-raise.ensures.raised c.in_ok-raise.ensures.levels is)
    c.add_level.ensures
