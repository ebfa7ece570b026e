pub mod Regrafting
pub mod Renewing
-- what crates above name by way of this one
pub use Rattle.r4_measure.specs as r4_measure
pub use Rattle.r4_measure.specs.r4_cell
pub use Rattle.r4_measure.specs.r4_patch
pub use Rattle.r4_measure.specs.r4_branch
pub use Rattle.r4_measure.specs.r4_path
pub use Rattle.r4_measure.specs.r4_work
pub use Rattle.r4_extent_edit.specs.r4_leaf
pub use Rattle.r4_measure.specs.r4_edit
pub use Rattle.r4_extent_edit.specs as r4_extent_edit
