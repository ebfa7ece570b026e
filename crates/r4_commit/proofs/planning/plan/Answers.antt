use Rattle.r4_wander.proofs.Fitting.{fits}
use Rattle.r4_commit.proofs.planning.plan.Goals as goal

pub returns-clause-fits : goal.returns-clause-fits
returns-clause-fits c = fits c.args.space.now.block_count c.in_ok-made.made.plan c.in_ok-made.ensures.below _ c.lawful.ensures.least c.in_ok-writer.ensures.parts
