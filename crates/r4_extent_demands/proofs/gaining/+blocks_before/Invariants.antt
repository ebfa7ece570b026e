use Rattle.r4_extent_demands.proofs.gaining.+blocks_before.Given as goal

abbrev pub decreases-blocks_before : goal.decreases-blocks_before
decreases-blocks_before l = l.count
