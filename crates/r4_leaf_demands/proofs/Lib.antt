mod BodyKeys
pub mod Weighed
mod Meets
mod Spans
mod Measured
mod AtCells
pub mod Alike
pub mod OfCommands
-- what crates above name by way of this one
pub use Rattle.r4_suited.proofs.r4_leaf_edits
pub use Rattle.r4_marking.proofs.r4_reach
pub use Rattle.r4_marking.proofs.r4_search
pub use Rattle.r4_suited.proofs as r4_suited
pub use Rattle.r4_marking.proofs as r4_marking
pub use Rattle.r4_leaf.proofs as r4_leaf
pub use Rattle.r4_suited.proofs.r4_patch
pub use Rattle.r4_marking.proofs.r4_path
