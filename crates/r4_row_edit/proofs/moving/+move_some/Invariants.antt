use Rattle.r4_row_edit.proofs.moving.+move_some.Given as goal

abbrev pub decreases-move_some : goal.decreases-move_some
decreases-move_some l = l.count
