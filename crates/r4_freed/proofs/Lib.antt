pub mod FreedClaims
pub mod UsedCells
pub mod DeferredThen
-- what crates above name by way of this one
pub use Rattle.r4_accounting.proofs.r4_done
pub use Rattle.r4_accounting.proofs.r4_durable
pub use Rattle.r4_accounting.proofs.r4_flushed
pub use Rattle.r4_accounting.proofs.r4_history
pub use Rattle.r4_accounting.proofs.r4_kept
pub use Rattle.r4_accounting.proofs.r4_taking
