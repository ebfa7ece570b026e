pub mod Adding
pub mod Touched
-- what crates above name by way of this one
pub use Rattle.r4_seeing.proofs.r4_gather
pub use Rattle.r4_leaf_edits.proofs as r4_leaf_edits
pub use Rattle.r4_seeing.proofs.r4_patch
pub use Rattle.r4_leaf_edits.proofs.r4_path
pub use Rattle.r4_seeing.proofs as r4_seeing
