use Rattle.std.proofs.Common.{◌≡◌, ◌-◌, ◌^◌, List, ap, map, subst, sym, arith, ◌∙◌, rules}
use Rattle.std.specs.Prelude.{min}
use Rattle.r4_leaf.specs.declared.remaking.KeyRange.{KeyRange}
use Rattle.std.specs.Arc.{arc_value}
use Rattle.r4_base.specs.Key.{rank}
use Rattle.r4_cell.specs.Seen.{CellSeen, node_of}
use Rattle.r4_leaf.specs.Remade.{AreWithin, CanPutAll, cut_all}
use Rattle.r4_leaf.specs.Units.{leaf_bytes}
use Rattle.r4_edit.specs.Remaking.{after_edits}
use Rattle.r4_edit_testing.specs.Trials.{IsPathOver}
use Rattle.r4_edit_testing.proofs.ShortPath.{remake_here}
use Rattle.r4_edit_testing.proofs.Together.{are_within, is_small, put_in, put_together}
use Rattle.r4_edit_testing.proofs.Trying.{first_level, first_of}
use Rattle.r4_edit_testing.proofs.remaking.remake.Goals as goal

pub are_put-requires-clause-high : goal.are_put-requires-clause-high
are_put-requires-clause-high c =
    let are = c.are_leaves.ensures c.if-not-are_leaves.false in
    let (rest, e) = first_of arc_value c.args.leaves.now c.index-leaves-0.result are.some c.index-leaves-0.is in
    let f = first_level _ (arc_value c.index-leaves-0.result) rest e are in
    let same = ap rank c.hi.ensures in
    let seen = ap (λ (x : CellSeen). rank x.hi) c.deref-2.ensures in
    let high = f.2 in
    omega (arith, same, seen, high)

pub size_after-requires-clause-within : goal.size_after-requires-clause-within
size_after-requires-clause-within c =
    subst (λ (x : CellSeen). AreWithin (rank x.lo) (rank x.hi) c.args.items.now) (sym c.deref-3.ensures)
    (are_within (rank (arc_value c.index-leaves-0.result).lo) (rank
    (arc_value c.index-leaves-0.result).hi) c.args.items.now c.args.ranges.now
    (put_in _ _ _ _ _ _ (ap rank c.lo.ensures ∙ ap (λ (x : CellSeen). rank x.lo) c.deref.ensures)
    (ap rank c.hi.ensures ∙ ap (λ (x : CellSeen). rank x.hi) c.deref-2.ensures)
    (c.in_ok-are_put.ensures c.if-not-branch.false)))

pub size_after-requires-clause-can : goal.size_after-requires-clause-can
size_after-requires-clause-can c =
    subst (λ (x : CellSeen). CanPutAll c.args.items.now (cut_all c.deref-4.result.now (node_of x).units))
    (sym c.deref-3.ensures)
    (put_together (rank (arc_value c.index-leaves-0.result).lo) (rank
    (arc_value c.index-leaves-0.result).hi) c.args.items.now c.args.ranges.now
    c.args.cuts.now c.deref-4.result.now (node_of (arc_value c.index-leaves-0.result)).units
    (c.deref-4.ensures.value ∙ c.in_ok-all.ensures)
    (put_in _ _ _ _ _ _ (ap rank c.lo.ensures ∙ ap (λ (x : CellSeen). rank x.lo) c.deref.ensures)
    (ap rank c.hi.ensures ∙ ap (λ (x : CellSeen). rank x.hi) c.deref-2.ensures)
    (c.in_ok-are_put.ensures c.if-not-branch.false)))

pub change_leaf-requires-clause-path : goal.change_leaf-requires-clause-path
change_leaf-requires-clause-path c =
    let are = c.are_leaves.ensures c.if-not-are_leaves.false in
    let (rest, e) = first_of arc_value c.args.leaves.now c.index-leaves-0.result are.some c.index-leaves-0.is in
    let all = c.deref-5.ensures.value ∙ c.in_ok-all.ensures in
    let put = put_in _ _ _ _ _ _ (ap rank c.lo.ensures ∙ ap (λ (x : CellSeen). rank x.lo) c.deref.ensures)
    (ap rank c.hi.ensures ∙ ap (λ (x : CellSeen). rank x.hi) c.deref-2.ensures)
    (c.in_ok-are_put.ensures c.if-not-branch.false) in
    let most = c.if-branch-gt-MOST.false in
    let size = subst (λ (x : CellSeen). c.in_ok-size_after.field-0 ≡ min (leaf_bytes
    (after_edits c.deref-5.result.now c.args.items.now x)) (2 ^ 64 - 1))
    c.deref-3.ensures (subst (λ (cs : List KeyRange). c.in_ok-size_after.field-0 ≡ min (leaf_bytes
    (after_edits cs c.args.items.now c.deref-3.result.now)) (2 ^ 64 - 1))
    (c.deref-4.ensures.value ∙ sym c.deref-5.ensures.value) c.in_ok-size_after.ensures) in
    remake_here (map arc_value c.args.leaves.now)
    (map arc_value c.as_slice.result.now) c.path_over.new.fresh c.deref-5.result.now c.args.items.now
    (arc_value c.index-leaves-0.result) rest e are
    (are_within (rank (arc_value c.index-leaves-0.result).lo) (rank
    (arc_value c.index-leaves-0.result).hi) c.args.items.now c.args.ranges.now put)
    (put_together (rank (arc_value c.index-leaves-0.result).lo) (rank
    (arc_value c.index-leaves-0.result).hi) c.args.items.now c.args.ranges.now
    c.args.cuts.now c.deref-5.result.now (node_of (arc_value c.index-leaves-0.result)).units all put)
    (is_small c.in_ok-size_after.field-0 (leaf_bytes (after_edits c.deref-5.result.now c.args.items.now
    (arc_value c.index-leaves-0.result))) size (search rules))
    (subst (λ (p : List CellSeen). IsPathOver (map arc_value c.args.leaves.now) c.path_over.new.fresh p)
    (ap (map arc_value) (sym c.as_slice.ensures.value)) c.in_ok-path.ensures.path)
