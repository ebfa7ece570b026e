use Rattle.std.proofs.Common.{◌∙◌, sym}
use Rattle.r4_base.proofs.Superblocks.{read_lawful}
use Rattle.r4_open.proofs.opening.read_supers.Goals as goal

pub returns-in-Ok-clause-lawful : goal.returns-in-Ok-clause-lawful
returns-in-Ok-clause-lawful g c = (read_lawful c.args.device_blocks _ c.in-Ok.found (sym c.read_super.ensures ∙ c.in-Ok.is)).0
