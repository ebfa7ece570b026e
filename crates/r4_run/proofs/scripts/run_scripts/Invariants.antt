use Rattle.r4_run.proofs.scripts.run_scripts.Given as goal

-- the text that was read
abbrev pub ghosts-run_text : goal.ghosts-run_text
ghosts-run_text g a = record { text = a.text.now }
