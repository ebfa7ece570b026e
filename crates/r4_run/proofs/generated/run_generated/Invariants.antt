use Rattle.r4_script.specs.Spelling.{job_text}
use Rattle.r4_run.proofs.generated.run_generated.Given as goal

-- the workload's own text
abbrev pub ghosts-run_job : goal.ghosts-run_job
ghosts-run_job g a = record { text = job_text a.job }
