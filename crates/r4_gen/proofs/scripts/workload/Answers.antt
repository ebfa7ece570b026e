use Rattle.r4_gen.proofs.Lawful.{job_is_lawful}
use Rattle.r4_gen.proofs.Spelled.{job_is_spelled}
use Rattle.r4_gen.proofs.scripts.workload.Goals as goal

pub returns-clause-lawful : goal.returns-clause-lawful
returns-clause-lawful c = job_is_lawful c.args.seed c.all_scripts.result c.all_scripts.ensures

pub returns-clause-spelled : goal.returns-clause-spelled
returns-clause-spelled c = job_is_spelled c.args.seed c.all_scripts.result c.all_scripts.ensures
