use Rattle.std.proofs.Common.{arith, map, ap, sym, ◌∙◌}
use Rattle.std.specs.Arc.{arc_value}
use Rattle.r4_squeeze.specs.Packing.{numbers}
use Rattle.r4_squeeze.proofs.CellNumbers.{none_at_all}
use Rattle.r4_squeeze.proofs.numbering.numbered.Goals as goal

pub returns-in_default : goal.returns-in_default
returns-in_default c =
    let zero = c.in_default.ensures.cases.0 in
    let is = c.into_iter-rest.ensures.len in
    let long = c.args.filled.ok in
    ap (map arc_value) c.in_ok-cells.ensures.items
    ∙ sym (none_at_all c.args.level (numbers c.args.ids.now) c.args.hi c.args.filled.items
    (omega (arith, zero, is, long)))
