use Rattle.std.proofs.Common.{List, map, subst}
use Rattle.std.specs.Prelude.{IfSome}
use Rattle.std.specs.Arc.{arc_value}
use Rattle.r4_base.specs.Key.{rank}
use Rattle.r4_work.specs.r4_cell.Seen.{CellSeen}
use Rattle.r4_row_gather.specs.Gathering.{IsGathered, StaysStill}
use Rattle.r4_row_gather.proofs.InTurn.{both_brought}
use Rattle.r4_row_gather.proofs.packing.gather_packed.Goals as goal

pub returns : goal.returns
returns c =
    let cells : List CellSeen = map arc_value c.args.cells.now in
    let from = rank c.args.keys.now.from in
    let to = rank c.args.keys.now.to in
    let one = c.in-Some-2.packed in
    let two = c.in-Some-3.gathered in
    let first = subst (λ o. IfSome o (StaysStill cells)) c.in-Some-2.is c.in_ok-packed.ensures in
    let second = subst (λ (xs : List CellSeen). IsGathered xs from to two) c.as_slice-2.ensures
    (subst (λ o. IfSome o (IsGathered (map arc_value c.as_slice-2.result.now) from to)) c.in-Some-3.is c.in_ok-gathered.ensures) in
    both_brought cells one two first second.brought.stays c.in_ok-both.both c.in_ok-both.ensures.followed
    c.in_ok-both.ensures.cells from to second.brought.below
