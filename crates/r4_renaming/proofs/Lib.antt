pub mod Lists
pub mod Naming
pub mod Owned
pub mod Owning
pub mod Prefix
pub mod Standing
pub mod Tasks
-- what crates above name by way of this one
pub use Rattle.r4_buffer.proofs as r4_buffer
pub use Rattle.r4_flush.proofs.r4_commit
pub use Rattle.r4_flush.proofs as r4_flush
pub use Rattle.r4_flush.proofs.r4_flushed
pub use Rattle.r4_flush.proofs.r4_place
pub use Rattle.r4_flush.proofs.r4_placed
pub use Rattle.r4_flush.proofs.r4_sealed
pub use Rattle.r4_flush.proofs.r4_sets
pub use Rattle.r4_flush.proofs.r4_sets_told
pub use Rattle.r4_flush.proofs.r4_wander
