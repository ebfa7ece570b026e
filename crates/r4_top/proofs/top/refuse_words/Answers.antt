use Rattle.r4_lines.proofs.Texts.{printed}
use Rattle.r4_top.proofs.top.refuse_words.Goals as goal

pub returns-clause-line : goal.returns-clause-line
returns-clause-line g c = printed _ _ _ c.write_usage.result c.write_usage.ensures
