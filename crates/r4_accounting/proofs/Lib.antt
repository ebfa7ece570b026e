mod OwnedCells
mod DeferredCells
mod ChargedCells
mod CellLists
-- what crates above name by way of this one
pub use Rattle.r4_cell.proofs as r4_cell
pub use Rattle.r4_done.proofs as r4_done
pub use Rattle.r4_done.proofs.r4_durable
pub use Rattle.r4_done.proofs.r4_flushed
pub use Rattle.r4_done.proofs.r4_history
pub use Rattle.r4_done.proofs.r4_kept
pub use Rattle.r4_done.proofs.r4_patch
pub use Rattle.r4_done.proofs.r4_sealed
pub use Rattle.r4_done.proofs.r4_sets
pub use Rattle.r4_done.proofs.r4_taking
