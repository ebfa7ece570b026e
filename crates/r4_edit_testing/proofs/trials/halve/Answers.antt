use Rattle.std.proofs.Common.{List, ap, map, subst, sym, length, ◌≤◌}
use Rattle.std.specs.Arc.{arc_value}
use Rattle.r4_base.specs.Key.{least, top}
use Rattle.r4_cell.specs.Seen.{CellSeen, node_of}
use Rattle.r4_path.specs.Steps.{Follow}
use Rattle.r4_edit_testing.specs.Trials.{IsPathOver}
use Rattle.r4_edit_testing.proofs.ShortPath.{split_here}
use Rattle.r4_edit_testing.proofs.Trying.{first_of}
use Rattle.r4_edit_testing.proofs.trials.halve.Goals as goal

pub split-requires-clause-path : goal.split-requires-clause-path
split-requires-clause-path c =
    let are = c.are_leaves.ensures c.if-not-are_leaves.false in
    let (rest, e) = first_of arc_value c.args.leaves.now c.index-leaves-0.result are.some c.index-leaves-0.is in
    let follow = subst (Follow 1 least top) e are.follow in
    split_here (map arc_value c.args.leaves.now)
    (map arc_value c.as_slice.result.now) c.path_over.new.fresh
    (arc_value c.index-leaves-0.result) rest e follow.0
    (subst (λ (x : CellSeen). 2 ≤ length (node_of x).units) c.deref.ensures (c.has_two_units.ensures c.if-not-has_two_units.false))
    (subst (λ (p : List CellSeen). IsPathOver (map arc_value c.args.leaves.now) c.path_over.new.fresh p)
    (ap (map arc_value) (sym c.as_slice.ensures.value)) c.in_ok-path.ensures.path)
