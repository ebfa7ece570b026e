use Rattle.r4_dir.specs.Found.{root_reply}
use Rattle.r4_dir.proofs.ways.entry_of.Goals as goal

pub returns-clause-comes : goal.returns-clause-comes
returns-clause-comes c = c.entry_named.ensures.comes (root_reply c.args.of_root)
