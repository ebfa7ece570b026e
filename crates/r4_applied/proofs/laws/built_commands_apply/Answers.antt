use Rattle.r4_applied.proofs.InSession.{applies}
use Rattle.r4_applied.proofs.laws.built_commands_apply.Goals as goal

pub returns : goal.returns
returns c = applies
