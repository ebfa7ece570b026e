use Rattle.std.proofs.Common.{◌-◌, length}
use Rattle.r4_row_edit.proofs.repacking.+add_fresh.Given as goal

abbrev pub decreases-add_fresh : goal.decreases-add_fresh
decreases-add_fresh l = l.count - length l.ids.now.items
