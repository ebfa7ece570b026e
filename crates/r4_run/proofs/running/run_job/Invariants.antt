use Rattle.std.proofs.Common.{None, Some}
use Rattle.r4_run.proofs.running.run_job.Given as goal

-- what the caller names, and a text that spells the job
abbrev pub ghosts-run_named : goal.ghosts-run_named
ghosts-run_named g a = record {
  start = g.R.Run.start;
  clock = g.R.Run.clock;
  scripts = Some g.S.Spelling.text;
  lender = None;
}
