use Rattle.r4_node40.proofs.Bodies.{body_lent}
use Rattle.r4_node40.proofs.laws.body_law.Goals as goal

pub returns : goal.returns
returns c = body_lent
