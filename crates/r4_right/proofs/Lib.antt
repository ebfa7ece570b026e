pub mod Right
-- what crates above name by way of this one
pub use Rattle.r4_freed.proofs.r4_done
pub use Rattle.r4_freed.proofs.r4_flushed
pub use Rattle.r4_freed.proofs.r4_kept
