use Rattle.std.proofs.Common.{map, sym, subst}
use Rattle.std.specs.Arc.{arc_value}
use Rattle.std.specs.Prelude.{All}
use Rattle.r4_allowed.specs.Making.{IsOfTwig}
use Rattle.r4_allowed.proofs.Raised.{of_twigs, raised_told}
use Rattle.r4_allowed.proofs.making.allowances.Goals as goal

pub raise-requires : goal.raise-requires
raise-requires c = subst (All IsOfTwig) (sym c.in_ok-table.ensures) (of_twigs c.args.twigs.now)

pub returns : goal.returns
returns c =
    raised_told c.args.root.now.height (map (λ x. arc_value x) c.args.cells.now) c.args.twigs.now c.in_ok-table.table.items
    c.raise.new.table.items c.in_ok-table.ensures c.in_ok-raise.ensures.raised
