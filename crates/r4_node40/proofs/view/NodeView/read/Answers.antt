use Rattle.std.proofs.Common.{refl, sym, ◌∙◌}
use Rattle.r4_node40.proofs.Faults.{room_from_header, header_stops, items_stop, no_fault, laid_from_good}
use Rattle.r4_node40.proofs.view.NodeView.read.Goals as goal

pub fault_of_items-requires-clause-room : goal.fault_of_items-requires-clause-room
fault_of_items-requires-clause-room c = room_from_header c.args.block.now c.get16-count.result (sym c.fault_of_header.ensures ∙ c.in_default.is) c.get16-count.ensures

pub returns-in-Some-clause-err : goal.returns-in-Some-clause-err
returns-in-Some-clause-err c = header_stops c.args.block.now c.in-Some.fault (sym c.fault_of_header.ensures ∙ c.in-Some.is)

pub returns-in-Some-fault_of_items-clause-err : goal.returns-in-Some-fault_of_items-clause-err
returns-in-Some-fault_of_items-clause-err c = items_stop c.args.block.now c.get16-count.result c.in-Some-fault_of_items.fault (sym c.fault_of_header.ensures ∙ c.in_default.is) c.get16-count.ensures (sym c.fault_of_items.ensures ∙ c.in-Some-fault_of_items.is)

pub invariant_of-result : goal.invariant_of-result
invariant_of-result c = record {
  laid = laid_from_good c.args.block.now c.requires (no_fault c.args.block.now c.get16-count.result (sym c.fault_of_header.ensures ∙ c.in_default.is) c.get16-count.ensures (sym c.fault_of_items.ensures ∙ c.in_default-fault_of_items.is));
  counted = c.get16-count.ensures;
}

pub returns-clause-ok : goal.returns-clause-ok
returns-clause-ok c = (no_fault c.args.block.now c.get16-count.result (sym c.fault_of_header.ensures ∙ c.in_default.is) c.get16-count.ensures (sym c.fault_of_items.ensures ∙ c.in_default-fault_of_items.is), refl)
