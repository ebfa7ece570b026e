use Rattle.std.proofs.Common.{rules, sym}
use Rattle.r4_base.proofs.Dirs.{passed, stopped, all_passed}
use Rattle.r4_cde.proofs.fault.fault_of_entries.Goals as goal

pub returns : goal.returns
returns c = all_passed c.args.item.now c.args.body.now c.args.count c.loop-i.i _ (search rules) c.loop-i.invariant

pub loop-i-preserved : goal.loop-i-preserved
loop-i-preserved c = passed c.args.item.now c.args.body.now c.args.count c.loop-i.i _ c.loop-i-test.true (sym c.in_default.ensures) c.loop-i.invariant

pub returns-in-Some : goal.returns-in-Some
returns-in-Some c = stopped c.args.item.now c.args.body.now c.args.count c.loop-i.i c.in-Some.fault _ c.loop-i-test.true (sym c.in-Some.ensures) c.loop-i.invariant
