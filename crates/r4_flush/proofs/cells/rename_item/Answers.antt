use Rattle.std.proofs.Common.{◌≡◌, ◌<◌, ℕ, List, length, Some, sym, subst}
use Rattle.std.specs.Prelude.{slice_get}
use Rattle.std.specs.Ordering.{nat_cmp}
use Rattle.std.specs.BTreeMap.{get}
use Rattle.r4_base.specs.Node.{items_of}
use Rattle.r4_node40.specs.Loan.{bytes_of}
use Rattle.r4_node40.specs.View.{item_shown}
use Rattle.r4_node40.proofs.Laid.{length-items_of}
use Rattle.r4_flush.specs.Anew.{new_name}
use Rattle.r4_flush.proofs.Written.{item_written}
use Rattle.r4_flush.proofs.cells.rename_item.Goals as goal

pub item-plugin-requires : goal.item-plugin-requires
item-plugin-requires c = subst (λ (b : List ℕ). c.args.i < length (items_of b)) (sym c.view.ensures)
    (subst (λ (n : ℕ). c.args.i < n) (sym (length-items_of (bytes_of c.args.node.now))) c.requires.within)

pub returns-clause-written : goal.returns-clause-written
returns-clause-written c = item_written (new_name (get nat_cmp c.args.names.now)) (bytes_of c.args.node.now)
    c.rename_body.new.body c.body_mut.result.now c.args.i (item_shown c.item-plugin.result) c.requires.laid
    c.requires.within (subst (λ (b : List ℕ). slice_get (items_of b) c.args.i ≡ Some (item_shown c.item-plugin.result))
    c.view.ensures c.item-plugin.ensures.shown) c.body_mut.ensures.value c.rename_body.ensures.long
    c.rename_body.ensures.pointer c.rename_body.ensures.extent c.rename_body.ensures.other
