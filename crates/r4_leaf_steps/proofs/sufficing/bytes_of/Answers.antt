use Rattle.std.proofs.Common.{◌≡◌, ◌-◌, ◌^◌, arith, inl, refl, sym, subst}
use Rattle.std.specs.Prelude.{List, min}
use Rattle.std.proofs.lemmas.Result.{IfOk-weaker}
use Rattle.r4_base.specs.Key.{rank}
use Rattle.r4_base.specs.declared.key.Key.{Key}
use Rattle.r4_build.proofs.Made.{units_of_leaf}
use Rattle.r4_build.proofs.r4_edit.LeafLent.{lent_stands, lent_units}
use Rattle.r4_build.specs.r4_leaf.Remade.{AreWithin, CanPutAll, cut_all, put_all}
use Rattle.r4_build.specs.r4_leaf.Units.{LeafUnit, leaf_bytes}
use Rattle.r4_leaf.specs.Items.{Lie}
use Rattle.r4_leaf.proofs.Standing.{stand_lie}
use Rattle.r4_leaf.specs.r4_node40.View.{view_items}
use Rattle.r4_leaf_steps.proofs.sufficing.bytes_of.Goals as goal

pub bytes_after-requires-clause-leaf : goal.bytes_after-requires-clause-leaf
bytes_after-requires-clause-leaf c =
    let leaf = c.args.leaf.now in
    let some = c.requires.some in
    let stands = lent_stands leaf c.requires.level leaf.block leaf.lo refl refl c.node.ensures.whole c.node.ensures.stands in
    let lie = stand_lie (rank leaf.lo) (rank leaf.hi) leaf.block stands (inl (omega (arith, some))) in (
      rank leaf.hi,
      (
        subst (λ (k : Key). Lie (rank k) (rank leaf.hi) (view_items c.node.result)) (sym c.lo.ensures) (subst (Lie (rank leaf.lo) (rank leaf.hi)) (sym c.node.ensures.items) lie),
        subst (λ (k : Key). AreWithin (rank k) (rank leaf.hi) c.args.items.now) (sym c.lo.ensures) c.requires.given.within,
      ),
    )

pub bytes_after-requires-clause-can : goal.bytes_after-requires-clause-can
bytes_after-requires-clause-can c =
    let leaf = c.args.leaf.now in
    let stands = lent_stands leaf c.requires.level leaf.block leaf.lo refl refl c.node.ensures.whole c.node.ensures.stands in
    subst (λ (us : List LeafUnit). CanPutAll c.args.items.now (cut_all c.args.cuts.now us))
    (sym (lent_units leaf c.requires.level (view_items c.node.result) c.node.ensures.items))
    (c.requires.given.can _ (units_of_leaf leaf c.requires.level stands c.requires.some))

pub returns-clause-bytes : goal.returns-clause-bytes
returns-clause-bytes c =
    IfOk-weaker c.bytes_after.result _ _ (λ n is.
    subst (λ (us : List LeafUnit). n ≡ min (leaf_bytes (put_all c.args.items.now (cut_all c.args.cuts.now us))) (2 ^ 64 - 1))
    (lent_units c.args.leaf.now c.requires.level (view_items c.node.result) c.node.ensures.items) is) c.bytes_after.ensures

pub returns-clause-units : goal.returns-clause-units
returns-clause-units c =
    let leaf = c.args.leaf.now in
    let stands = lent_stands leaf c.requires.level leaf.block leaf.lo refl refl c.node.ensures.whole c.node.ensures.stands in
    IfOk-weaker c.bytes_after.result _ _ (λ n is. units_of_leaf leaf c.requires.level stands c.requires.some) c.bytes_after.ensures
