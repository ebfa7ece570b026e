use Rattle.std.proofs.Common.{List, reverse, sym, ap, subst, ◌∙◌}
use Rattle.std.proofs.lemmas.List.{reverse-reverse}
use Rattle.std.proofs.lemmas.Result.{IfOk-weaker}
use Rattle.r4_base.specs.Key.{rank}
use Rattle.r4_leaf.specs.Leaves.{Packs}
use Rattle.r4_leaf.specs.Pieces.{Follow, units_of}
use Rattle.r4_leaf.specs.Remade.{units_after}
use Rattle.r4_leaf.specs.Units.{LeafUnit}
use Rattle.r4_node40.specs.View.{view_items}
use Rattle.r4_leaf.proofs.Counted.{are_few}
use Rattle.r4_leaf.proofs.remaking.remake.Goals as goal

pub pack-requires : goal.pack-requires
pack-requires c =
    let (hi, (lie, within)) = c.requires.leaf in (
      hi,
      subst (Follow (rank c.args.lo) hi) (sym (ap reverse c.reverse.ensures.items ∙ reverse-reverse c.in_ok-pieces.pieces.items))
          (c.in_ok-pieces.ensures.follow hi lie within),
    )

pub returns-clause-packs : goal.returns-clause-packs
returns-clause-packs c =
    let back = ap reverse c.reverse.ensures.items ∙ reverse-reverse c.in_ok-pieces.pieces.items in
    let us = ap units_of back ∙ c.in_ok-pieces.ensures.units in
    IfOk-weaker c.pack.result _ _ (λ v packs hi lie within.
    subst (λ (xs : List LeafUnit). Packs (rank c.args.lo) hi xs v.items) us
    (packs hi (subst (Follow (rank c.args.lo) hi) (sym back) (c.in_ok-pieces.ensures.follow hi lie within)))) c.pack.ensures.packs

pub returns-clause-few : goal.returns-clause-few
returns-clause-few c =
    let back = ap reverse c.reverse.ensures.items ∙ reverse-reverse c.in_ok-pieces.pieces.items in
    let us = ap units_of back ∙ c.in_ok-pieces.ensures.units in
    IfOk-weaker c.pack.result _ _ (λ v packs hi lie within small.
    are_few (rank c.args.lo) hi (units_after c.args.cuts.now c.args.items.now (view_items c.args.leaf.now)) v.items
    (subst (λ (xs : List LeafUnit). Packs (rank c.args.lo) hi xs v.items) us
    (packs hi (subst (Follow (rank c.args.lo) hi) (sym back) (c.in_ok-pieces.ensures.follow hi lie within)))) small) c.pack.ensures.packs
