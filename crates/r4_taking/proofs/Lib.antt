pub mod Merged
pub mod NamesFree
pub mod FusedAtoms
pub mod FusedCounts
pub mod Deferred
pub mod Going
pub mod Turned
pub mod EndedAtoms
pub mod Fused
pub mod FusedAll
pub mod RefusedSingle
pub mod OutTurns
pub mod Used
pub mod GoneOut
pub mod MetInMemory
pub mod GivenOut
-- what crates above name by way of this one
pub use Rattle.r4_kept.proofs.r4_buffer
pub use Rattle.r4_kept.proofs.r4_cell
pub use Rattle.r4_kept.proofs.r4_durable
pub use Rattle.r4_kept.proofs.r4_flushed
pub use Rattle.r4_kept.proofs.r4_history
pub use Rattle.r4_kept.proofs as r4_kept
pub use Rattle.r4_kept.proofs.r4_sealed
pub use Rattle.r4_kept.proofs.r4_sets
pub use Rattle.r4_kept.proofs.r4_space
pub use Rattle.r4_kept.proofs.r4_suited
pub use Rattle.r4_kept.proofs.r4_trace
