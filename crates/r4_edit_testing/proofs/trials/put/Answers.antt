use Rattle.std.proofs.Common.{List, ap, map, subst, sym}
use Rattle.std.specs.Arc.{arc_value}
use Rattle.r4_cell.specs.Seen.{CellSeen}
use Rattle.r4_edit_testing.specs.Trials.{IsPathOver}
use Rattle.r4_edit_testing.proofs.ShortPath.{insert_here}
use Rattle.r4_edit_testing.proofs.trials.put.Goals as goal

pub insert-requires-clause-path : goal.insert-requires-clause-path
insert-requires-clause-path c =
    insert_here (map arc_value c.args.leaves.now) (map arc_value c.as_slice.result.now) c.path_over.new.fresh
    (record { key = c.args.key.now; plugin = c.args.plugin; body = c.args.body.now })
    (c.are_leaves.ensures c.if-not-are_leaves.false)
    (c.in_ok-may_come.ensures c.if-not-branch.false)
    (subst (λ (p : List CellSeen). IsPathOver (map arc_value c.args.leaves.now) c.path_over.new.fresh p)
    (ap (map arc_value) (sym c.as_slice.ensures.value)) c.in_ok-path.ensures.path)
    c.in_ok-path.ensures.next
