use Rattle.r4_content.proofs.CourseLaws.{local}
use Rattle.r4_content.proofs.laws.commands_are_local.Goals as goal

pub returns : goal.returns
returns c = local
