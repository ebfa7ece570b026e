use Rattle.std.proofs.Common.{◌≡◌, sym, subst, arith}
use Rattle.std.specs.Prelude.{IfSome}
use Rattle.std.specs.Arc.{arc_value}
use Rattle.r4_base.proofs.Numbers.{length-number_bytes}
use Rattle.r4_leaf.specs.r4_node40.View.{item_shown}
use Rattle.r4_path.specs.Nodes.{pointer_item, weight_of}
use Rattle.r4_path.proofs.row.Row.weight_of.Goals as goal

pub overflow_cast-result : goal.overflow_cast-result
overflow_cast-result c = let b = c.requires.row.bodies c.args.i (item_shown c.in-Stays.item) c.in-Stays.ensures in
    omega (arith, b)

pub overflow_add-result : goal.overflow_add-result
overflow_add-result c = let b = c.requires.row.bodies c.args.i (item_shown c.in-Stays.item) c.in-Stays.ensures in
    omega (arith, b)

pub returns-in-Stays-clause-small : goal.returns-in-Stays-clause-small
returns-in-Stays-clause-small c = let b = c.requires.row.bodies c.args.i (item_shown c.in-Stays.item) c.in-Stays.ensures in
    omega (arith, b)

pub returns-in-Comes-clause-weighs : goal.returns-in-Comes-clause-weighs
returns-in-Comes-clause-weighs c =
    let long = length-number_bytes 8 (arc_value c.in-Comes.field-0.now).id in
    subst (λ o. IfSome o (λ it. 46 ≡ weight_of it)) (sym c.in-Comes.ensures)
    (let e : 46 ≡ weight_of (pointer_item (arc_value c.in-Comes.field-0.now)) = omega (arith, long) in e)
