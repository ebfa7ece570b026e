use Rattle.r4_node40.proofs.Bodies.{span_lent}
use Rattle.r4_node40.proofs.laws.span_law.Goals as goal

pub returns : goal.returns
returns c = span_lent
