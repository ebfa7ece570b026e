use Rattle.std.proofs.Common.{◌≤◌, drop, sym, subst, ◌∙◌, arith}
use Rattle.r4_base.specs.Key.{rank}
use Rattle.r4_base.specs.declared.key.Key.{Key}
use Rattle.r4_path.proofs.r4_graft.Placed.{place_within}
use Rattle.r4_edit.specs.CutBlocks.{next_key}
use Rattle.r4_edit.proofs.cutting.cut_parted.Goals as goal

pub pointer_beside-pointer-requires : goal.pointer_beside-pointer-requires
pointer_beside-pointer-requires c =
    let is = c.place_of-end.ensures in
    let w = place_within (rank c.args.to.now) c.args.pieces.now in
    omega (arith, is, w)

pub taken_up-requires-clause-leaf : goal.taken_up-requires-clause-leaf
taken_up-requires-clause-leaf c d is =
    let h = c.requires.leaf d is in
    let hi = c.key_at-hi.ensures ∙ (λ i. next_key (c.hi.ensures i) (drop (c.place_of-end.ensures i) c.args.pieces.now)) in
    (h.0, subst (λ (k : Key). rank d.hi ≤ rank k) (sym hi) h.1)

pub with_pointer-requires-clause-at : goal.with_pointer-requires-clause-at
with_pointer-requires-clause-at c =
    let is = c.place_of-at.ensures in
    let w = place_within (rank c.args.from.now) c.args.pieces.now in
    omega (arith, is, w)

pub with_pointer-requires-clause-end : goal.with_pointer-requires-clause-end
with_pointer-requires-clause-end c =
    let is = c.place_of-end.ensures in
    let w = place_within (rank c.args.to.now) c.args.pieces.now in
    omega (arith, is, w)
