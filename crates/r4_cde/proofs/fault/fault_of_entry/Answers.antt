use Rattle.std.proofs.Common.{◌≡◌, ◌∙◌, Some, None, cond, not, refl, sym}
use Rattle.r4_base.specs.declared.items.DirFault.TheVariants.{Name}
use Rattle.r4_base.specs.Dir.{entry_fault}
use Rattle.r4_cde.proofs.Forms.{name_fault_is}
use Rattle.r4_cde.proofs.fault.fault_of_entry.Goals as goal

pub returns-then-not-is_named : goal.returns-then-not-is_named
returns-then-not-is_named c =
    let is : entry_fault c.args.item.now c.args.body.now c.args.i ≡ cond (not c.is_named.result) (Some (Name c.args.i)) None =
    name_fault_is c.args.item.now c.args.body.now c.args.i c.from-from.result c.edge_in-to.result c.key_in.result c.is_named.result (sym c.is_in_place.ensures ∙ c.if-not-is_in_place.false) (sym c.is_in_order.ensures ∙ c.if-not-is_in_order.false) (c.from-from.ensures ∙ c.offset_in.ensures) c.edge_in-to.ensures c.key_in.ensures c.is_named.ensures in
    sym (is ∙ rw c.if-not-is_named.true refl)

pub returns : goal.returns
returns c =
    let is : entry_fault c.args.item.now c.args.body.now c.args.i ≡ cond (not c.is_named.result) (Some (Name c.args.i)) None =
    name_fault_is c.args.item.now c.args.body.now c.args.i c.from-from.result c.edge_in-to.result c.key_in.result c.is_named.result (sym c.is_in_place.ensures ∙ c.if-not-is_in_place.false) (sym c.is_in_order.ensures ∙ c.if-not-is_in_order.false) (c.from-from.ensures ∙ c.offset_in.ensures) c.edge_in-to.ensures c.key_in.ensures c.is_named.ensures in
    sym (is ∙ rw c.if-not-is_named.false refl)
