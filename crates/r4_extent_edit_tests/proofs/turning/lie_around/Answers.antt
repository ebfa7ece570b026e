use Rattle.std.proofs.Common.{◌≤◌, ◌<◌, length, subst, rules}
use Rattle.std.specs.Arc.{arc_value}
use Rattle.r4_base.specs.Key.{rank}
use Rattle.r4_cell.specs.Seen.{CellSeen}
use Rattle.r4_extent_edit_tests.proofs.Turned.{around_here}
use Rattle.r4_extent_edit_tests.proofs.turning.lie_around.Goals as goal

pub returns-then-begins_in : goal.returns-then-begins_in
returns-then-begins_in c stops =
    let some : 1 ≤ length c.args.leaves.now = search rules in
    around_here arc_value c.args.leaves.now c.index-leaves-0.result c.index-leaves-leaves.result (rank c.args.from.now)
    (rank c.args.to.now) c.index-leaves-0.is c.index-leaves-leaves.is some
    (subst (λ (x : CellSeen). (rank x.lo ≤ rank c.args.from.now) × (rank c.args.from.now < rank x.hi)) c.deref.ensures
    (c.begins_in.ensures c.if-begins_in.true))
    (subst (λ (x : CellSeen). (rank x.lo < rank c.args.to.now) × (rank c.args.to.now ≤ rank x.hi))
    c.deref-then-begins_in.ensures (c.ends_in.ensures stops))
