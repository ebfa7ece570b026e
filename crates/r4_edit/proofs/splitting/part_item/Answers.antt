use Rattle.std.proofs.Common.{◌≤◌, length, subst, sym, ◌∙◌, arith}
use Rattle.std.specs.Arc.{arc_value}
use Rattle.std.specs.Option.{option_map}
use Rattle.r4_path.specs.r4_leaf.Units.{IsMiddle}
use Rattle.r4_edit.proofs.HalvedLeaf.{key_before, key_behind, leaf_parted, lent_stands, lent_units}
use Rattle.r4_edit.proofs.splitting.part_item.Goals as goal

pub middle_key-key-requires-clause-two : goal.middle_key-key-requires-clause-two
middle_key-key-requires-clause-two c = subst (λ us. 2 ≤ length us)
    (sym (lent_units (arc_value c.args.leaf.now) c.deref.result.now _ c.deref.ensures c.requires.level c.node.ensures.items))
    c.requires.two

pub part_leaf-requires-clause-from : goal.part_leaf-requires-clause-from
part_leaf-requires-clause-from c =
    let leaf = arc_value c.args.leaf.now in
    let stand = lent_stands leaf c.deref.result.now c.deref.ensures c.requires.level c.node.ensures.whole c.node.ensures.stands in
    let middle = subst (λ us. IsMiddle us c.middle_key-key.result)
    (lent_units leaf c.deref.result.now _ c.deref.ensures c.requires.level c.node.ensures.items) c.middle_key-key.ensures in
    let behind = key_behind leaf c.requires.level c.requires.node stand c.middle_key-key.result c.requires.two middle in
    omega (arith, behind)

pub part_leaf-requires-clause-to : goal.part_leaf-requires-clause-to
part_leaf-requires-clause-to c =
    let leaf = arc_value c.args.leaf.now in
    let stand = lent_stands leaf c.deref.result.now c.deref.ensures c.requires.level c.node.ensures.whole c.node.ensures.stands in
    let middle = subst (λ us. IsMiddle us c.middle_key-key.result)
    (lent_units leaf c.deref.result.now _ c.deref.ensures c.requires.level c.node.ensures.items) c.middle_key-key.ensures in
    key_before leaf c.requires.level c.requires.node stand c.middle_key-key.result c.requires.two middle

pub returns-clause-parted : goal.returns-clause-parted
returns-clause-parted c =
    let leaf = arc_value c.args.leaf.now in
    let stand = lent_stands leaf c.deref.result.now c.deref.ensures c.requires.level c.node.ensures.whole c.node.ensures.stands in
    let middle = subst (λ us. IsMiddle us c.middle_key-key.result)
    (lent_units leaf c.deref.result.now _ c.deref.ensures c.requires.level c.node.ensures.items) c.middle_key-key.ensures in
    leaf_parted leaf c.requires.level c.requires.node stand c.middle_key-key.result c.requires.two middle c.args.fresh.now
    c.part_leaf.new.fresh (arc_value c.in_ok-try_clone.field-0) c.from_vec.result
    (option_map arc_value c.in_ok-parts.parts.left) (option_map arc_value c.in_ok-parts.parts.right) c.in_ok-try_clone.ensures
    (c.from_vec.ensures ∙ c.in_ok-new.ensures) c.in_ok-parts.ensures.parts
