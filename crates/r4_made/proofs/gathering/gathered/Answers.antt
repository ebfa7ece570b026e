use Rattle.std.proofs.Common.{◌≤◌, List, ap, arith, length, map, subst}
use Rattle.std.specs.Arc.{arc_value}
use Rattle.std.specs.Option.{IfSome}
use Rattle.std.proofs.lemmas.List.{length-map}
use Rattle.r4_base.specs.Key.{rank}
use Rattle.r4_put_tasks.specs.r4_build.r4_measure.r4_cell.Seen.{CellSeen}
use Rattle.r4_row_gather.specs.Gathering.{IsBroughtBelow}
use Rattle.r4_made.proofs.gathering.gathered.Goals as goal

pub returns : goal.returns
returns c =
    let from = rank c.coming.result.from in
    let to = rank c.coming.result.to in
    let here = c.as_slice-cells.result.now in
    let there = c.as_slice.result.now in
    let few : length there ≤ length here = c.if-as_slice-cells.false in
    let all = ap length c.as_slice-cells.ensures in
    let left = ap length c.as_slice.ensures in
    let one = length-map here arc_value in
    let two = length-map there arc_value in
    record {
      gathered = record {
        from = from;
        to = to;
        are = subst (λ (cells : List CellSeen). IsBroughtBelow cells from to c.in-Some.gathered) c.as_slice-cells.ensures
            (subst (λ o. IfSome o (IsBroughtBelow (map (λ x. arc_value x) here) from to)) c.in-Some.is c.in_ok-gathered.ensures);
        few = omega (arith, few, all, left, one, two);
      };
    }
