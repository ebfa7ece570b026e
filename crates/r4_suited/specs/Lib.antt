pub mod Suited
-- what crates above name by way of this one
pub use Rattle.r4_leaf_edits.specs as r4_leaf_edits
pub use Rattle.r4_leaf_edits.specs.r4_patch
pub use Rattle.r4_leaf_edits.specs.r4_reach
pub use Rattle.r4_leaf_edits.specs.r4_cell
