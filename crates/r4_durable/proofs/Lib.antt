pub mod Meant
pub mod SealedContent
pub mod Crashed
pub mod Opened
pub mod Flushes
pub mod Staying
pub mod Steps
pub mod Commits
pub mod GoingOn
pub mod Empty
-- what crates above name by way of this one
pub use Rattle.r4_flushed.proofs as r4_flushed
pub use Rattle.r4_flushed.proofs.r4_sealed
pub use Rattle.r4_flushed.proofs.r4_sets
pub use Rattle.r4_open.proofs.r4_space
