pub mod Turning
pub mod Unused
pub mod Carried
pub mod Readable
pub mod Resting
pub mod Settling
pub mod Cleaned
pub mod States
pub mod Dones
pub mod Owing
pub mod Staying
-- what crates above name by way of this one
pub use Rattle.r4_buffer.proofs as r4_buffer
pub use Rattle.r4_history.proofs.r4_cell
pub use Rattle.r4_durable.proofs as r4_durable
pub use Rattle.r4_durable.proofs.r4_flushed
pub use Rattle.r4_history.proofs as r4_history
pub use Rattle.r4_build.proofs.r4_patch
pub use Rattle.r4_durable.proofs.r4_sealed
pub use Rattle.r4_durable.proofs.r4_sets
pub use Rattle.r4_durable.proofs.r4_space
pub use Rattle.r4_suited.proofs as r4_suited
pub use Rattle.r4_history.proofs.r4_trace
pub use Rattle.r4_history.proofs.r4_twig
