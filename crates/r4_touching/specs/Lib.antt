pub mod Touching
pub mod Changed
-- what crates above name by way of this one
pub use Rattle.r4_seeing.specs.r4_gather
pub use Rattle.r4_leaf_edits.specs as r4_leaf_edits
pub use Rattle.r4_seeing.specs.r4_patch
pub use Rattle.r4_leaf_edits.specs.r4_path
pub use Rattle.r4_leaf_edits.specs.r4_reach
pub use Rattle.r4_seeing.specs as r4_seeing
pub use Rattle.r4_cell.specs as r4_cell
pub use Rattle.r4_seeing.specs.r4_sight
