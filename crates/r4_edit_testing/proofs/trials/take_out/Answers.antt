use Rattle.std.proofs.Common.{List, ap, map, subst, sym, ◌<◌, ◌≤◌}
use Rattle.std.specs.Arc.{arc_value}
use Rattle.r4_base.specs.Key.{rank}
use Rattle.r4_cell.specs.Seen.{CellSeen}
use Rattle.r4_edit_testing.specs.Trials.{IsPathOver}
use Rattle.r4_edit_testing.proofs.ShortPath.{cut_here}
use Rattle.r4_edit_testing.proofs.Trying.{first_of}
use Rattle.r4_edit_testing.proofs.trials.take_out.Goals as goal

pub cut-requires-clause-path : goal.cut-requires-clause-path
cut-requires-clause-path c =
    let are = c.are_leaves.ensures c.if-not-are_leaves.false in
    let (rest, e) = first_of arc_value c.args.leaves.now c.index-leaves-0.result are.some c.index-leaves-0.is in
    cut_here (map arc_value c.args.leaves.now)
    (map arc_value c.as_slice.result.now) c.path_over.new.fresh c.args.from.now c.args.to.now
    (arc_value c.index-leaves-0.result) rest e are
    (subst (λ (x : CellSeen). (rank c.args.from.now < rank c.args.to.now) × (rank x.lo ≤ rank c.args.from.now)
    × (rank c.args.to.now ≤ rank x.hi)) c.deref.ensures (c.has_keys.ensures c.if-not-has_keys.false))
    (subst (λ (p : List CellSeen). IsPathOver (map arc_value c.args.leaves.now) c.path_over.new.fresh p)
    (ap (map arc_value) (sym c.as_slice.ensures.value)) c.in_ok-path.ensures.path) c.in_ok-path.ensures.next
