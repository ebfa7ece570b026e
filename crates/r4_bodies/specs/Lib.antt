pub mod Told
-- what crates above name by way of this one
pub use Rattle.r4_leaf_demands.specs as r4_leaf_demands
pub use Rattle.r4_leaf_demands.specs.r4_marking
pub use Rattle.r4_leaf_demands.specs.r4_suited
pub use Rattle.r4_leaf_demands.specs.r4_cell
pub use Rattle.r4_leaf_demands.specs.r4_leaf
pub use Rattle.r4_leaf_demands.specs.r4_leaf_edits
pub use Rattle.r4_leaf_demands.specs.r4_path
