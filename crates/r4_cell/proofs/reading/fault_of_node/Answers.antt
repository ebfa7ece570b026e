use Rattle.std.proofs.Common.{sym, ◌∙◌}
use Rattle.r4_cell.proofs.Faults.{level_good}
use Rattle.r4_cell.proofs.reading.fault_of_node.Goals as goal

pub returns : goal.returns
returns c = c.fault_of_items.ensures ∙ level_good c.args.place.now.level _ _ (sym c.level.ensures ∙ c.if-level-place.false)
