use Rattle.r4_twig.proofs.Faults.{in_range}
use Rattle.r4_twig.proofs.fault.is_in_range.Goals as goal

pub returns : goal.returns
returns c = in_range c.args.blocks c.args.run.now c.requires.start c.if-run-blocks.false c.if-run-blocks-2.false
