pub mod Bounded
pub mod Counted
pub mod Showing
pub mod Blocks
pub mod Volumes
pub mod MovedFiles
pub mod BuiltFor
pub mod OneContent
-- what crates above name by way of this one
pub use Rattle.r4_sets.proofs.r4_patch
pub use Rattle.r4_sets.proofs as r4_sets
pub use Rattle.r4_sets.proofs.r4_trace
