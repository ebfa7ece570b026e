use Rattle.std.proofs.Common.{◌<◌, inl, refl, sym, subst}
use Rattle.std.specs.Prelude.{List}
use Rattle.std.proofs.lemmas.Result.{IfOk-weaker}
use Rattle.r4_base.specs.Key.{rank}
use Rattle.r4_base.specs.declared.key.Key.{Key}
use Rattle.r4_path.specs.r4_leaf.Items.{Lie}
use Rattle.r4_path.specs.r4_leaf.Remade.{AreWithin, CanPutAll, cut_all, put_all}
use Rattle.r4_path.specs.r4_leaf.Units.{LeafUnit, leaf_bytes}
use Rattle.r4_path.proofs.r4_leaf.Standing.{stand_lie}
use Rattle.r4_path.specs.r4_node40.View.{view_items}
use Rattle.r4_edit.proofs.LeafLent.{lent_leaves, lent_stands, lent_units}
use Rattle.r4_path.proofs.Results.{and_ok}
use Rattle.r4_edit.proofs.remaking.leaves_remade.Goals as goal

pub remake-requires : goal.remake-requires
remake-requires c =
    let stands = lent_stands c.args.leaf.now c.requires.level c.args.leaf.now.block c.args.leaf.now.lo refl refl c.node.ensures.whole c.node.ensures.stands in
    let lie = stand_lie (rank c.args.leaf.now.lo) (rank c.args.leaf.now.hi) c.args.leaf.now.block stands (inl c.requires.range) in
    record {
      leaf = (
        rank c.args.leaf.now.hi,
        (
          subst (λ (k : Key). Lie (rank k) (rank c.args.leaf.now.hi) (view_items c.node.result)) (sym c.lo.ensures) (subst (Lie (rank c.args.leaf.now.lo) (rank c.args.leaf.now.hi)) (sym c.node.ensures.items) lie),
          subst (λ (k : Key). AreWithin (rank k) (rank c.args.leaf.now.hi) c.args.items.now) (sym c.lo.ensures) c.requires.within,
        ),
      );
      can = subst (λ (us : List LeafUnit). CanPutAll c.args.items.now (cut_all c.args.cuts.now us)) (sym (lent_units c.args.leaf.now c.requires.level (view_items c.node.result) c.node.ensures.items)) c.requires.can;
    }

pub returns-clause-leaves : goal.returns-clause-leaves
returns-clause-leaves c =
    let stands = lent_stands c.args.leaf.now c.requires.level c.args.leaf.now.block c.args.leaf.now.lo refl refl c.node.ensures.whole c.node.ensures.stands in
    let lie_leaf = stand_lie (rank c.args.leaf.now.lo) (rank c.args.leaf.now.hi) c.args.leaf.now.block stands (inl c.requires.range) in
    let lie = subst (λ (k : Key). Lie (rank k) (rank c.args.leaf.now.hi) (view_items c.node.result)) (sym c.lo.ensures) (subst (Lie (rank c.args.leaf.now.lo) (rank c.args.leaf.now.hi)) (sym c.node.ensures.items) lie_leaf) in
    let within = subst (λ (k : Key). AreWithin (rank k) (rank c.args.leaf.now.hi) c.args.items.now) (sym c.lo.ensures) c.requires.within in
    let small = subst (λ (us : List LeafUnit). leaf_bytes (put_all c.args.items.now (cut_all c.args.cuts.now us)) < 58912) (sym (lent_units c.args.leaf.now c.requires.level (view_items c.node.result) c.node.ensures.items)) c.requires.small in
    IfOk-weaker c.remake.result _ _ (λ v both.
    lent_leaves c.args.leaf.now c.requires.level (λ us. put_all c.args.items.now (cut_all c.args.cuts.now us)) (view_items c.node.result) c.lo.result v.items c.node.ensures.items c.lo.ensures
    (both.0 (rank c.args.leaf.now.hi) lie within) (both.1 (rank c.args.leaf.now.hi) lie within small))
    (and_ok c.remake.result _ _ c.remake.ensures.packs c.remake.ensures.few)
