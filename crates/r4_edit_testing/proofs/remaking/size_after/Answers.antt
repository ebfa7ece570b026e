use Rattle.std.proofs.Common.{◌≡◌, ◌-◌, ◌^◌, inl, refl, sym, subst}
use Rattle.std.specs.Prelude.{List, min}
use Rattle.std.proofs.lemmas.Result.{IfOk-weaker}
use Rattle.r4_base.specs.Key.{rank}
use Rattle.r4_base.specs.declared.key.Key.{Key}
use Rattle.r4_leaf.specs.Items.{Lie}
use Rattle.r4_leaf.specs.Remade.{AreWithin, CanPutAll, cut_all, put_all}
use Rattle.r4_leaf.specs.Units.{LeafUnit, leaf_bytes}
use Rattle.r4_leaf.proofs.Standing.{stand_lie}
use Rattle.r4_node40.specs.View.{view_items}
use Rattle.r4_edit.proofs.LeafLent.{lent_stands, lent_units}
use Rattle.r4_edit_testing.proofs.remaking.size_after.Goals as goal

pub bytes_after-requires-clause-leaf : goal.bytes_after-requires-clause-leaf
bytes_after-requires-clause-leaf c =
    let stands = lent_stands c.args.leaf.now c.requires.level c.args.leaf.now.block c.args.leaf.now.lo refl refl
    c.node.ensures.whole c.node.ensures.stands in
    let lie = stand_lie (rank c.args.leaf.now.lo) (rank c.args.leaf.now.hi) c.args.leaf.now.block stands
    (inl c.requires.range) in (
      rank c.args.leaf.now.hi,
      (
        subst (λ (k : Key). Lie (rank k) (rank c.args.leaf.now.hi) (view_items c.node.result)) (sym c.lo.ensures)
            (subst (Lie (rank c.args.leaf.now.lo) (rank c.args.leaf.now.hi)) (sym c.node.ensures.items) lie),
        subst (λ (k : Key). AreWithin (rank k) (rank c.args.leaf.now.hi) c.args.items.now)
            (sym c.lo.ensures) c.requires.within,
      ),
    )

pub bytes_after-requires-clause-can : goal.bytes_after-requires-clause-can
bytes_after-requires-clause-can c =
    subst (λ (us : List LeafUnit). CanPutAll c.args.items.now (cut_all c.args.cuts.now us))
    (sym (lent_units c.args.leaf.now c.requires.level (view_items c.node.result) c.node.ensures.items)) c.requires.can

pub returns : goal.returns
returns c =
    IfOk-weaker c.bytes_after.result _ _ (λ n is.
    subst (λ (us : List LeafUnit). n ≡ min (leaf_bytes (put_all c.args.items.now (cut_all c.args.cuts.now us)))
    (2 ^ 64 - 1))
    (lent_units c.args.leaf.now c.requires.level
    (view_items c.node.result) c.node.ensures.items) is) c.bytes_after.ensures
