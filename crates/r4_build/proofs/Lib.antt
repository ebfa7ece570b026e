pub mod Pairs
pub mod MetKeys
pub mod LeafKeys
pub mod Changing
pub mod Turns
pub mod Origin
pub mod Made
pub mod Contents
pub mod Lying
pub mod Fitting
pub mod FreshBuilt
-- what crates above name by way of this one
pub use Rattle.r4_measure.proofs.r4_branch
pub use Rattle.r4_measure.proofs.r4_edit
pub use Rattle.r4_leaf_edits.proofs as r4_leaf_edits
pub use Rattle.r4_measure.proofs as r4_measure
pub use Rattle.r4_measure.proofs.r4_patch
pub use Rattle.r4_measure.proofs.r4_path
pub use Rattle.r4_measure.proofs.r4_reach
pub use Rattle.r4_measure.proofs.r4_work
