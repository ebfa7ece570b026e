use Rattle.std.proofs.Common.{refl}
use Rattle.r4_commit_tests.proofs.CommitTests.{fits_small}
use Rattle.r4_commit_tests.proofs.commits.writer.Goals as goal

pub returns-clause-fits : goal.returns-clause-fits
returns-clause-fits c = fits_small _ _ refl c.in_ok-records.ensures c.in_ok-placed.ensures c.in_ok-copies.ensures.below c.in_ok-new.ensures.parts
