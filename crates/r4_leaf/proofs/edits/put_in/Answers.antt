use Rattle.std.proofs.Common.{◌+◌, inl, arith}
use Rattle.r4_base.specs.Cell.{item_end, item_units, units_in}
use Rattle.r4_base.specs.Key.{rank}
use Rattle.r4_base.specs.Node.{Item}
use Rattle.r4_node40.specs.View.{view_block, view_items}
use Rattle.r4_leaf.specs.Units.{put_units}
use Rattle.r4_leaf.proofs.Bounded.{put_bound}
use Rattle.r4_leaf.proofs.Counted.{are_few, if_ok2}
use Rattle.r4_leaf.proofs.Filled.{lie_wider}
use Rattle.r4_leaf.proofs.SoundItems.{item_has_end}
use Rattle.r4_leaf.proofs.Standing.{is_node, some_range, stand_lie}
use Rattle.r4_leaf.proofs.edits.put_in.Goals as goal

pub with_item-requires-clause-leaf : goal.with_item-requires-clause-leaf
with_item-requires-clause-leaf c =
    let l = c.requires.leaf in some_range (rank c.args.lo) l.0 (view_block c.args.leaf.now).now l.1

pub returns-clause-packs : goal.returns-clause-packs
returns-clause-packs c =
    let low = c.requires.from in
    let it : Item = record { key = c.args.key.now; plugin = c.args.plugin; body = c.args.body.now } in
    if_ok2 c.with_item.result _ _ _ (λ v p sound hi stand le.
    let own = item_has_end it sound in
    p hi (stand_lie (rank c.args.lo) hi (view_block c.args.leaf.now).now stand (inl (omega (arith, own, low, le)))) le) c.with_item.ensures.packs c.with_item.ensures.sound

pub returns-clause-few : goal.returns-clause-few
returns-clause-few c = if_ok2 c.with_item.result _ _ _ (λ v p sound.
    let it : Item = record { key = c.args.key.now; plugin = c.args.plugin; body = c.args.body.now } in
    let b = (view_block c.args.leaf.now).now in
    let us = put_units (item_units it) (units_in (view_items c.args.leaf.now)) in
    let stand = c.requires.leaf.1 in
    let l = some_range (rank c.args.lo) c.requires.leaf.0 b stand in
    let hi = l.0 + item_end it in
    let wider = lie_wider (rank c.args.lo) l.0 hi (view_items c.args.leaf.now) (omega arith) l.1 in
    let most = put_bound (rank c.args.lo) hi b (is_node (rank c.args.lo) c.requires.leaf.0 b stand).laid wider it sound c.requires.given.short c.requires.apart in
    are_few (rank c.args.lo) hi us v.items (p hi wider (omega arith)) (omega (arith, most))) c.with_item.ensures.packs c.with_item.ensures.sound
