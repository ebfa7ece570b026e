use Rattle.std.proofs.Common.{true, ap, arith}
use Rattle.r4_base.specs.Key.{rank}
use Rattle.r4_base.specs.Node.{items_of}
use Rattle.r4_node40.specs.Loan.{bytes_of}
use Rattle.r4_edit_testing.proofs.RunTwig.{above_one, first_key, least_byte, one_counted}
use Rattle.r4_edit_testing.proofs.trials.lay_run.Goals as goal

pub append-requires-2-clause-counted : goal.append-requires-2-clause-counted
append-requires-2-clause-counted c =
    one_counted (bytes_of c.append.new.node) (items_of (bytes_of c.format-node.result)) _ c.format-node.ensures.fresh.items
    c.append.ensures.appended.items

pub append-requires-2-clause-above : goal.append-requires-2-clause-above
append-requires-2-clause-above c =
    let low = ap rank c.stat.ensures in
    let high = ap rank c.key_of.ensures in
    above_one (items_of (bytes_of c.append.new.node)) (items_of (bytes_of c.format-node.result)) _ c.key_of.result
    c.format-node.ensures.fresh.items c.append.ensures.appended.items (omega (arith, low, high, first_key true, least_byte))
