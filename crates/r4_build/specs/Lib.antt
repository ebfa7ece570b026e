pub mod Building
pub mod Making
pub mod Built
-- what crates above name by way of this one
pub use Rattle.r4_measure.specs.r4_branch
pub use Rattle.r4_measure.specs.r4_leaf
pub use Rattle.r4_leaf_edits.specs as r4_leaf_edits
pub use Rattle.r4_measure.specs as r4_measure
pub use Rattle.r4_measure.specs.r4_patch
pub use Rattle.r4_measure.specs.r4_path
pub use Rattle.r4_measure.specs.r4_reach
pub use Rattle.r4_measure.specs.r4_work
