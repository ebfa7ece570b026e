pub mod Held
pub mod Asked
pub mod Children
pub mod Besides
pub mod Marked
-- what crates above name by way of this one
pub use Rattle.r4_reach.proofs.r4_branch
pub use Rattle.r4_reach.proofs.r4_graft
pub use Rattle.r4_reach.proofs.r4_patch
pub use Rattle.r4_reach.proofs.r4_path
pub use Rattle.r4_reach.proofs as r4_reach
pub use Rattle.r4_search.proofs as r4_search
