pub mod Few
pub mod Walked
pub mod Runs
pub mod Suits
pub mod Weights
pub mod Left
pub mod Cells
pub mod Small
-- what crates above name by way of this one
pub use Rattle.r4_leaf_edits.proofs as r4_leaf_edits
pub use Rattle.r4_leaf_edits.proofs.r4_patch
