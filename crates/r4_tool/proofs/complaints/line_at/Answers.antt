use Rattle.r4_tool.proofs.Lines.{strips}
use Rattle.r4_tool.proofs.complaints.line_at.Goals as goal

pub returns : goal.returns
returns c = strips c.args.printed.now c.args.at c.strip_prefix.result c.strip_prefix.ensures.cases
