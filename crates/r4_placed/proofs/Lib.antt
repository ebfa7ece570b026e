pub mod Swapped
pub mod Planning
pub mod ByBlock
pub mod RenamingItems
-- what crates above name by way of this one
pub use Rattle.r4_sealed.proofs.r4_commit
pub use Rattle.r4_sealed.proofs.r4_place
pub use Rattle.r4_sealed.proofs as r4_sealed
pub use Rattle.r4_sealed.proofs.r4_sets
pub use Rattle.r4_sealed.proofs.r4_sets_told
pub use Rattle.r4_sealed.proofs.r4_trace
pub use Rattle.r4_sealed.proofs.r4_wander
