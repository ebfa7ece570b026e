pub mod Asking
-- what crates above name by way of this one
pub use Rattle.r4_extent_demands.specs as r4_extent_demands
pub use Rattle.r4_extent_demands.specs.r4_marking
pub use Rattle.r4_extent_demands.specs.r4_reach
pub use Rattle.r4_extent_demands.specs.r4_leaf
pub use Rattle.r4_extent_demands.specs.r4_path
pub use Rattle.r4_extent_demands.specs.r4_leaf_edits
pub use Rattle.r4_extent_demands.specs.r4_leaf_demands
pub use Rattle.r4_extent_demands.specs.r4_bodies
pub use Rattle.r4_extent_demands.specs.r4_graft
