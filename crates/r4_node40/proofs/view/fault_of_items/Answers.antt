use Rattle.std.proofs.Common.{rules, sym}
use Rattle.r4_node40.proofs.Faults.{passed, stopped, all_passed}
use Rattle.r4_node40.proofs.view.fault_of_items.Goals as goal

pub returns : goal.returns
returns c = all_passed c.args.b.now c.args.count c.loop-i.i _ (search rules) c.loop-i.invariant

pub loop-i-preserved : goal.loop-i-preserved
loop-i-preserved c = passed c.args.b.now c.args.count c.loop-i.i _ c.loop-i-test.true (sym c.in_default.ensures) c.loop-i.invariant

pub returns-in-Some : goal.returns-in-Some
returns-in-Some c = stopped c.args.b.now c.args.count c.loop-i.i c.in-Some.fault _ c.loop-i-test.true (sym c.in-Some.ensures) c.loop-i.invariant
