use Rattle.std.proofs.Common.{map, subst}
use Rattle.std.specs.Arc.{arc_value}
use Rattle.std.specs.Prelude.{List}
use Rattle.r4_put_tasks.specs.r4_build.r4_measure.r4_cell.Seen.{CellSeen}
use Rattle.r4_content.specs.Held.{edits_of}
use Rattle.r4_put_tasks.specs.r4_grown_tasks.Places.{HavePlaces}
use Rattle.r4_made.proofs.growing.may_be_grown.Goals as goal

pub returns : goal.returns
returns c = λ ok.
    let b = c.args.body.now in
    let e = edits_of c.args.edits.now in
    record {
      may = c.in_ok-may_grow.ensures.may c.if-not-branch.false;
      places = subst (λ (reads : List CellSeen). HavePlaces b e reads (map (λ x. arc_value x) c.args.cells.now))
          c.as_slice.ensures (c.in_ok-have.ensures.have ok);
    }
