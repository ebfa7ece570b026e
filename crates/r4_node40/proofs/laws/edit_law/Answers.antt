use Rattle.r4_node40.proofs.Kept.{node_removed, node_inserted, node_resized, node_written}
use Rattle.r4_node40.proofs.laws.edit_law.Goals as goal

pub returns : goal.returns
returns c = record { removed = node_removed; inserted = node_inserted; resized = node_resized; written = node_written }
