use Rattle.std.proofs.Common.{◌^◌}
use Rattle.r4_cell.proofs.OnDisk.{cell_on_disk}
use Rattle.r4_cell.proofs.laws.on_disk_law.Goals as goal

pub returns : goal.returns
returns c = λ blocks level lo hi b. cell_on_disk (2 ^ 64) blocks level lo hi b
