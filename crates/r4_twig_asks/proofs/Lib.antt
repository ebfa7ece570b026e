pub mod Asks
-- what crates above name by way of this one
pub use Rattle.r4_extent_demands.proofs as r4_extent_demands
pub use Rattle.r4_extent_demands.proofs.r4_marking
pub use Rattle.r4_extent_demands.proofs.r4_leaf
pub use Rattle.r4_extent_demands.proofs.r4_graft
pub use Rattle.r4_extent_demands.proofs.r4_patch
pub use Rattle.r4_extent_demands.proofs.r4_path
pub use Rattle.r4_extent_demands.proofs.r4_leaf_edits
pub use Rattle.r4_extent_demands.proofs.r4_leaf_demands
