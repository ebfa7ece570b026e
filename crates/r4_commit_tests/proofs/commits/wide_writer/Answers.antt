use Rattle.std.proofs.Common.{arith}
use Rattle.r4_wander.proofs.Fitting.{fits}
use Rattle.r4_commit_tests.proofs.commits.wide_writer.Goals as goal

pub returns-clause-fits : goal.returns-clause-fits
returns-clause-fits c = fits 1024 _ (record {
  head = omega arith;
  records = c.in_ok-records_of.ensures.below;
  placed = c.no_cells.ensures;
  wandered = c.in_ok-many_copies.ensures.below;
}) _ (omega arith) c.in_ok-new.ensures.parts
