use Rattle.r4_extent_counts.proofs.gaining.+gaining.Given as goal

abbrev pub decreases-gaining : goal.decreases-gaining
decreases-gaining l = l.count
