use Rattle.std.proofs.Common.{sym}
use Rattle.r4_twig.proofs.Places.{length-units_of}
use Rattle.r4_twig.proofs.view.ExtentView.len.Goals as goal

pub returns-clause-units : goal.returns-clause-units
returns-clause-units c = sym (length-units_of c.args.self.now.body.now)
