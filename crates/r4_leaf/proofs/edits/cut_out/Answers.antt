use Rattle.std.proofs.Common.{arith}
use Rattle.std.proofs.lemmas.Result.{IfOk-weaker}
use Rattle.r4_base.specs.Cell.{units_in}
use Rattle.r4_base.specs.Key.{rank}
use Rattle.r4_node40.specs.View.{view_block, view_items}
use Rattle.r4_leaf.specs.Units.{cut_units}
use Rattle.r4_leaf.proofs.Bounded.{cut_bound}
use Rattle.r4_leaf.proofs.Counted.{are_few}
use Rattle.r4_leaf.proofs.Standing.{empty_packs, is_node, some_range}
use Rattle.r4_leaf.proofs.edits.cut_out.Goals as goal

pub without-requires : goal.without-requires
without-requires c = let l = c.requires.leaf in some_range (rank c.args.lo) l.0 (view_block c.args.leaf.now).now l.1

pub returns-clause-packs : goal.returns-clause-packs
returns-clause-packs c = IfOk-weaker c.without.result _ _ (λ v p hi stand.
    empty_packs (rank c.args.lo) hi (rank c.args.from.now) (rank c.args.to.now) (view_block c.args.leaf.now).now v.items stand p) c.without.ensures.packs

pub returns-clause-few : goal.returns-clause-few
returns-clause-few c = IfOk-weaker c.without.result _ _ (λ v p.
    let b = (view_block c.args.leaf.now).now in
    let us = cut_units (rank c.args.from.now) (rank c.args.to.now) (units_in (view_items c.args.leaf.now)) in
    let stand = c.requires.leaf.1 in
    let l = some_range (rank c.args.lo) c.requires.leaf.0 b stand in
    let most = cut_bound (rank c.args.lo) l.0 b (is_node (rank c.args.lo) c.requires.leaf.0 b stand).laid l.1 (rank c.args.from.now) (rank c.args.to.now) in
    are_few (rank c.args.lo) l.0 us v.items (p l.0 l.1) (omega (arith, most))) c.without.ensures.packs
