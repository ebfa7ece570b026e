pub mod Leaves
pub mod Touching
-- what crates above name by way of this one
pub use Rattle.r4_suited.specs.r4_leaf_edits
pub use Rattle.r4_marking.specs as r4_marking
pub use Rattle.r4_marking.specs.r4_reach
pub use Rattle.r4_suited.specs as r4_suited
pub use Rattle.r4_cell.specs as r4_cell
pub use Rattle.r4_leaf.specs as r4_leaf
pub use Rattle.r4_marking.specs.r4_path
