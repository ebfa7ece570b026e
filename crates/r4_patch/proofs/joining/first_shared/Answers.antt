use Rattle.std.proofs.Common.{rules}
use Rattle.r4_patch.proofs.Shared.{shared_here, none_shared, none_before_more}
use Rattle.r4_patch.proofs.joining.first_shared.Goals as goal

pub returns-then-is_among-clause-some : goal.returns-then-is_among-clause-some
returns-then-is_among-clause-some c = shared_here c.args.ids.now c.args.others.now c.loop-id.id-index c.requires.rising c.loop-id.invariant c.loop-id-test.true (search rules)

pub loop-id-preserved : goal.loop-id-preserved
loop-id-preserved c = none_before_more c.args.ids.now c.args.others.now c.loop-id.id-index c.loop-id.invariant (search rules)

pub returns-clause-none : goal.returns-clause-none
returns-clause-none c = none_shared c.args.ids.now c.args.others.now c.loop-id.id-index c.loop-id.invariant c.loop-id-test.false
