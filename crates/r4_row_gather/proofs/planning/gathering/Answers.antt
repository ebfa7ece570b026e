use Rattle.std.proofs.Common.{◌≤◌, ◌∙◌, ap, arith, length, map, subst}
use Rattle.std.specs.Prelude.{IfSome}
use Rattle.std.specs.Arc.{arc_value}
use Rattle.r4_base.specs.Key.{rank}
use Rattle.r4_rows.specs.Packed.{AreTheirPieces}
use Rattle.r4_squeeze.proofs.PackedLeft.{long_cells}
use Rattle.r4_row_gather.specs.Finding.{IsRowAmong}
use Rattle.r4_row_gather.specs.Parting.{AreParts}
use Rattle.r4_row_gather.proofs.Planned.{plan_to_gather}
use Rattle.r4_row_gather.proofs.planning.gathering.Goals as goal

pub returns : goal.returns
returns c =
    let cells = map arc_value c.args.cells.now in
    let from = rank c.args.keys.now.from in
    let to = rank c.args.keys.now.to in
    let r = subst (λ o. IfSome o (IsRowAmong cells 2 from to)) c.in-Some.is c.in_ok-row.ensures in
    let twigs = c.as_slice-twigs.ensures in
    let (each, theirs, all) = c.in_ok-pieces.ensures in
    let parts = subst (λ o. IfSome o (λ v. AreParts c.as_slice.result.now (map (λ p. p.items) v.items))) c.in-Some-2.is
    c.in_ok-parts.ensures.parts in
    let few = subst (λ o. IfSome o (λ v. length v.items ≤ length c.as_slice-twigs.result.now)) c.in-Some-2.is
    c.in_ok-parts.ensures.few in
    let long = long_cells arc_value c.as_slice-twigs.result.now in
    let many = ap length twigs in
    plan_to_gather cells from from to r.hi
    (record { row = c.in-Some.row; below = record { old = c.new.result; new = c.new-2.result }; parts = c.in-Some-2.parts }) r.is each
    (subst (λ cs. AreTheirPieces cs each) twigs theirs) (omega (arith, few, long, many)) c.as_slice.result.now
    (c.as_slice.ensures.value ∙ all) c.new.ensures c.new-2.ensures parts
