use Rattle.r4_lines.proofs.Texts.{printed}
use Rattle.r4_run.proofs.ending.tell_memory.Goals as goal

pub returns-clause-line : goal.returns-clause-line
returns-clause-line g c = printed _ _ _ c.write_memory.result c.write_memory.ensures
