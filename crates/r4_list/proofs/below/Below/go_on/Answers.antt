use Rattle.std.proofs.Common.{◌∙◌}
use Rattle.r4_list.proofs.BelowSteps.{dir_step, entry_step, item_step, leaf_step, stayed}
use Rattle.r4_list.specs.declared.fault.Stop.TheVariants.{Memory}
use Rattle.r4_list.proofs.below.Below.go_on.Goals as goal

pub returns-in_err-go_past-in-Entry-clause-over : goal.returns-in_err-go_past-in-Entry-clause-over
returns-in_err-go_past-in-Entry-clause-over g c = λ n image m has over start f fs held w steps enough.
    stayed has c.args.root.now start steps _ _ _ _ c.from_residual-in_err-go_past-in-Entry.result Memory c.from_residual-in_err-go_past-in-Entry.ensures.1 tt over

pub returns-in_ok-go_past-in-Entry-clause-over : goal.returns-in_ok-go_past-in-Entry-clause-over
returns-in_ok-go_past-in-Entry-clause-over g c = λ n image m has over start f fs held w steps enough.
    entry_step has c.args.root.now start steps f fs c.args.self.now c.args.frame held w enough c.deref.result.now (c.deref.ensures ∙ c.in_ok-leaf.ensures) c.in-Entry.ensures.whole c.in-Entry.ensures.stands
    c.in-Entry.entry c.in-Entry.ensures.place c.go_past.new.self c.in_ok-go_past-in-Entry.ensures.path c.in_ok-go_past-in-Entry.ensures.printed c.in_ok-go_past-in-Entry.ensures.pushed _ _ c.print_entry.result _ c.print_entry.new.self
    (λ a is. c.print_entry.ensures.over n image m has over a is)

pub returns-in_ok-go_to_item-in-ItemEnd-clause-over : goal.returns-in_ok-go_to_item-in-ItemEnd-clause-over
returns-in_ok-go_to_item-in-ItemEnd-clause-over g c = λ n image m has over start f fs held w steps enough.
    item_step has c.args.root.now start steps f fs c.args.self.now c.args.frame held w enough c.deref.result.now (c.deref.ensures ∙ c.in_ok-leaf.ensures) c.in-ItemEnd.ensures.whole c.in-ItemEnd.ensures.stands
    tt _ _ c.go_to_item.new.self over c.in-ItemEnd.ensures.place c.in_ok-go_to_item-in-ItemEnd.ensures.path c.in_ok-go_to_item-in-ItemEnd.ensures.printed c.in_ok-go_to_item-in-ItemEnd.ensures.pushed

pub returns-in-LeafEnd-clause-over : goal.returns-in-LeafEnd-clause-over
returns-in-LeafEnd-clause-over g c = λ n image m has over start f fs held w steps enough.
    leaf_step has c.args.root.now start steps f fs c.args.self.now c.args.frame held w enough c.deref.result.now (c.deref.ensures ∙ c.in_ok-leaf.ensures) c.in-LeafEnd.ensures.whole c.in-LeafEnd.ensures.stands
    c.go_to_leaf.result _ _ c.go_to_leaf.new.self c.in-LeafEnd.ensures.place (c.go_to_leaf.ensures.over n image m has over f held.held)

pub returns-in-DirEnd-clause-over : goal.returns-in-DirEnd-clause-over
returns-in-DirEnd-clause-over g c = λ n image m has over start f fs held w steps enough.
    dir_step has c.args.root.now start steps f fs c.args.self.now c.args.frame held w enough c.deref.result.now (c.deref.ensures ∙ c.in_ok-leaf.ensures) c.in-DirEnd.ensures.whole c.in-DirEnd.ensures.stands
    tt _ _ over c.in-DirEnd.ensures.place
