pub mod Made
pub mod Faults
pub mod Spelled
pub mod Written
pub mod Choosing
pub mod Overwriting
pub mod Preparation
pub mod Joining
pub mod Flushed
pub mod Standing
-- what crates above name by way of this one
pub use Rattle.r4_flushed.proofs.r4_commit
pub use Rattle.r4_flushed.proofs as r4_flushed
pub use Rattle.r4_place.proofs as r4_place
pub use Rattle.r4_flushed.proofs.r4_placed
pub use Rattle.r4_flushed.proofs.r4_sealed
pub use Rattle.r4_flushed.proofs.r4_sets
pub use Rattle.r4_flushed.proofs.r4_sets_told
pub use Rattle.r4_flushed.proofs.r4_wander
