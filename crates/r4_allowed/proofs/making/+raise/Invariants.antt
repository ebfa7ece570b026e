use Rattle.r4_allowed.proofs.making.+raise.Given as goal

abbrev pub decreases-raise : goal.decreases-raise
decreases-raise l = l.top
