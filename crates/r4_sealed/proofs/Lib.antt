pub mod NewCells
pub mod NewContent
pub mod Coming
pub mod Kept
pub mod LostBlocks
pub mod Settled
pub mod Resting
pub mod LeftOut
-- what crates above name by way of this one
pub use Rattle.r4_commit.proofs as r4_commit
pub use Rattle.r4_commit.proofs.r4_place
pub use Rattle.r4_sets_told.proofs.r4_sets
pub use Rattle.r4_sets_told.proofs as r4_sets_told
pub use Rattle.r4_sets_told.proofs.r4_trace
pub use Rattle.r4_commit.proofs.r4_wander
