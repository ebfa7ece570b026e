use Rattle.std.proofs.Common.{◌≡◌, List, map, subst}
use Rattle.std.specs.Prelude.{IfSome}
use Rattle.std.specs.Arc.{arc_value}
use Rattle.r4_base.specs.Key.{rank}
use Rattle.r4_work.specs.r4_cell.Seen.{CellSeen}
use Rattle.r4_squeeze.specs.Over.{IsSlumOf}
use Rattle.r4_row_gather.specs.Finding.{IsRowAmong}
use Rattle.r4_row_gather.proofs.Squeezed.{IsSqueezeOf, squeezed_stay}
use Rattle.r4_row_gather.proofs.packing.squeezed.Goals as goal

pub returns : goal.returns
returns c =
    let cells : List CellSeen = map arc_value c.args.cells.now in
    let leaves : List CellSeen = c.in-Some-2.leaves in
    let twig : CellSeen = arc_value c.in-Some.twig.now in
    let row = subst (λ o. IfSome o (IsRowAmong cells 1 (rank c.if-is_below.from) (rank c.if-is_below-2.to))) c.in-Some-2.is c.in_ok-leaves.ensures in
    let slum = subst (IsSlumOf leaves) c.deref-else-as_slice-lt2.ensures
    (subst (λ (xs : List CellSeen). IsSlumOf xs c.deref-else-as_slice-lt2.result.now) c.as_slice-else-as_slice-lt2.ensures c.if-not-is_slum.ensures) in
    let made : IsSqueezeOf (map arc_value c.as_slice-2.result.now) twig c.in_ok-change.change = record {
      change = c.in_ok-change.ensures.change;
      meets = c.in_ok-change.ensures.meets;
      effect = c.in_ok-change.ensures.effect;
      squeezes = c.in_ok-change.ensures.squeezes;
    } in
    squeezed_stay cells leaves twig row.is.among c.in-Some.ensures.among slum c.in_ok-change.change
    (subst (λ (xs : List CellSeen). IsSqueezeOf xs twig c.in_ok-change.change) c.as_slice-2.ensures made)
    c.in_ok-cells.cells c.in_ok-cells.ensures
