use Rattle.r4_run.proofs.running.run_named.Given as goal

-- where the device stands now
abbrev pub ghosts-run_stopped : goal.ghosts-run_stopped
ghosts-run_stopped g a = record { began = g.E.Device.state a.dev }
