pub mod FirstKeys
pub mod FileSizes
pub mod BodyKeys
pub mod Premises
pub mod InTails
-- what crates above name by way of this one
pub use Rattle.r4_leaf_demands.proofs as r4_leaf_demands
pub use Rattle.r4_leaf_demands.proofs.r4_search
pub use Rattle.r4_leaf_demands.proofs.r4_suited
pub use Rattle.r4_leaf_demands.proofs.r4_leaf_edits
pub use Rattle.r4_leaf_demands.proofs.r4_marking
pub use Rattle.r4_leaf_demands.proofs.r4_leaf
pub use Rattle.r4_leaf_demands.proofs.r4_patch
pub use Rattle.r4_leaf_demands.proofs.r4_path
