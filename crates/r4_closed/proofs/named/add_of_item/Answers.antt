use Rattle.std.proofs.Common.{◌++◌, ◌^◌, List, rules, sym, ap, ◌∙◌}
use Rattle.std.proofs.lemmas.List.{append-nil}
use Rattle.std.proofs.lemmas.Result.{IfOk-weaker}
use Rattle.r4_base.specs.Key.{rank}
use Rattle.r4_base.specs.Tree.{Name}
use Rattle.r4_node40.specs.View.{item_shown}
use Rattle.r4_closed.specs.Named.{new_ids}
use Rattle.r4_closed.proofs.Items.{extent_named, extent_stands, other_named, other_stands}
use Rattle.r4_closed.proofs.Items.{pointer_named, pointer_stands, standing_extent}
use Rattle.r4_closed.proofs.named.add_of_item.Goals as goal

pub returns-in_ok-add_of_pointer-in-3-clause-stands : goal.returns-in_ok-add_of_pointer-in-3-clause-stands
returns-in_ok-add_of_pointer-in-3-clause-stands c = λ yes.
    pointer_stands (item_shown c.args.item.now) c.in-3.is c.requires.sound

pub returns-in_ok-add_of_pointer-in-3-clause-named : goal.returns-in_ok-add_of_pointer-in-3-clause-named
returns-in_ok-add_of_pointer-in-3-clause-named c = λ yes level next.
    c.in_ok-add_of_pointer-in-3.ensures level (rank c.args.item.now.key) next
    ∙ ap (λ (names : List Name). c.args.named.now.items ++ new_ids names)
    (sym (pointer_named level next (item_shown c.args.item.now) c.in-3.is))

pub returns-in-5-clause-stands : goal.returns-in-5-clause-stands
returns-in-5-clause-stands c = IfOk-weaker c.add_of_extent.result _ _
    (λ b stands yes. extent_stands (2 ^ 63) (item_shown c.args.item.now) c.in-5.is (stands yes))
    c.add_of_extent.ensures.stands

pub returns-in-5-clause-named : goal.returns-in-5-clause-named
returns-in-5-clause-named c = IfOk-weaker c.add_of_extent.result _ _
    (λ b named yes level next. named yes (rank c.args.item.now.key)
    ∙ ap (λ (names : List Name). c.args.named.now.items ++ new_ids names)
    (sym (extent_named level next (item_shown c.args.item.now) c.in-5.is)))
    c.add_of_extent.ensures.named

pub returns-in-5-clause-refused : goal.returns-in-5-clause-refused
returns-in-5-clause-refused c = IfOk-weaker c.add_of_extent.result _ _
    (λ b refused no stands. refused no (standing_extent (2 ^ 63) (item_shown c.args.item.now) c.in-5.is stands))
    c.add_of_extent.ensures.refused

pub returns-in_default-clause-stands : goal.returns-in_default-clause-stands
returns-in_default-clause-stands c = λ yes. other_stands (2 ^ 64) (2 ^ 63) (item_shown c.args.item.now) (search rules)
    (search rules) c.requires.sound

pub returns-in_default-clause-named : goal.returns-in_default-clause-named
returns-in_default-clause-named c = λ yes level next.
    sym (ap (λ (names : List Name). c.args.named.now.items ++ new_ids names)
    (other_named level next (item_shown c.args.item.now) (search rules) (search rules))
    ∙ append-nil c.args.named.now.items)
