use Rattle.r4_applied.proofs.Applied.{does}
use Rattle.r4_applied.proofs.Over.{born_are, gone_are, reply_is}
use Rattle.r4_applied.proofs.laws.built_commands_do.Goals as goal

pub returns : goal.returns
returns c = record { does = does; reply = reply_is; born = born_are; gone = gone_are }
