use Rattle.std.proofs.Common.{◌≡◌, ◌≤◌, ◌∙◌, ap, arith, length, map, subst, sym}
use Rattle.std.specs.Prelude.{IfSome}
use Rattle.std.specs.Arc.{arc_value}
use Rattle.r4_base.specs.Key.{rank}
use Rattle.r4_work.specs.r4_cell.Seen.{CellSeen}
use Rattle.r4_work.specs.r4_path.Steps.{Follow}
use Rattle.r4_rows.specs.Packed.{AreTheirPieces}
use Rattle.r4_squeeze.proofs.PackedLeft.{long_cells}
use Rattle.r4_squeeze.proofs.TwigSlums.{last_hi}
use Rattle.r4_row_gather.specs.Clearing.{IsCleared}
use Rattle.r4_row_gather.specs.Finding.{IsRowAmong}
use Rattle.r4_row_gather.specs.Parting.{AreParts}
use Rattle.r4_row_gather.proofs.Planned.{plan_to_clear}
use Rattle.r4_row_gather.proofs.planning.clearing.Goals as goal

pub returns : goal.returns
returns c =
    let cells = map arc_value c.args.cells.now in
    let from = rank c.args.keys.now.from in
    let to = rank c.args.keys.now.to in
    let begin = rank c.begin_before.result in
    let r = subst (λ o. IfSome o (IsRowAmong cells 2 begin to)) c.in-Some.is c.in_ok-row.ensures in
    let twigs = c.as_slice-twigs.ensures in
    let (each, theirs, all) = c.in_ok-pieces.ensures in
    let end : rank c.hi-hi.result ≡ r.hi = ap rank (c.hi-hi.ensures ∙ ap (λ (x : CellSeen). x.hi) c.deref.ensures)
    ∙ last_hi arc_value 2 r.is.lo r.hi c.as_slice-twigs.result.now c.index-twigs-twigs.result c.index-twigs-twigs.is
    (subst (Follow 2 r.is.lo r.hi) (sym twigs) r.is.along) r.is.some in
    let cleared = subst (λ o. IfSome o (IsCleared cells from to (rank c.hi-hi.result) c.as_slice.result.now)) c.in-Some-2.is
    c.in_ok-rest.ensures in
    let parts = subst (λ o. IfSome o (λ v. AreParts c.as_slice-2.result.now (map (λ p. p.items) v.items))) c.in-Some-3.is
    c.in_ok-parts.ensures.parts in
    let few = subst (λ o. IfSome o (λ v. length v.items ≤ length c.as_slice-twigs.result.now)) c.in-Some-3.is
    c.in_ok-parts.ensures.few in
    let long = long_cells arc_value c.as_slice-twigs.result.now in
    let many = ap length twigs in
    plan_to_clear cells begin from to r.hi
    (record { row = c.in-Some.row; below = record { old = c.from_vec.result; new = c.from_vec-2.result }; parts = c.in-Some-3.parts }) r.is each
    (subst (λ cs. AreTheirPieces cs each) twigs theirs) (omega (arith, few, long, many)) c.as_slice.result.now
    (rank c.hi-hi.result) c.in-Some-2.rest (c.as_slice.ensures.value ∙ all) end cleared c.from_vec.ensures
    c.from_vec-2.ensures
    (subst (λ ps. AreParts ps (map (λ p. p.items) c.in-Some-3.parts.items)) c.as_slice-2.ensures.value parts)
