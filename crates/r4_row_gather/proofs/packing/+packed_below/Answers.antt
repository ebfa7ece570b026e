use Rattle.std.proofs.Common.{List, map, subst}
use Rattle.std.specs.Prelude.{IfSome}
use Rattle.std.specs.Arc.{arc_value}
use Rattle.r4_work.specs.r4_cell.Seen.{CellSeen}
use Rattle.r4_row_gather.specs.Gathering.{StaysStill}
use Rattle.r4_row_gather.proofs.InTurn.{both_stay}
use Rattle.r4_row_gather.proofs.packing.+packed_below.Goals as goal

pub returns-in_ok-both-in-Some-3 : goal.returns-in_ok-both-in-Some-3
returns-in_ok-both-in-Some-3 l c =
    let cells : List CellSeen = map arc_value c.args.cells.now in
    let one = c.in-Some-2.packed in
    let two = c.in-Some-3.more in
    let first = subst (λ o. IfSome o (StaysStill cells)) c.in-Some-2.is c.in_ok-packed.ensures in
    let second = subst (λ (xs : List CellSeen). StaysStill xs two) c.as_slice.ensures
    (subst (λ o. IfSome o (StaysStill (map arc_value c.as_slice.result.now))) c.in-Some-3.is c.in_ok-squeezed.ensures) in
    both_stay cells one two first second c.in_ok-both-in-Some-3.both c.in_ok-both-in-Some-3.ensures.followed
    c.in_ok-both-in-Some-3.ensures.cells
