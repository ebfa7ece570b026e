use Rattle.r4_run.proofs.naming.serve_job.Given as goal

-- where the device stands now
abbrev pub ghosts-go_on : goal.ghosts-go_on
ghosts-go_on g a = record { began = g.E.Device.state a.dev }
