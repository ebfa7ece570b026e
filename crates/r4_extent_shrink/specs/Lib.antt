pub mod Shrinking
pub mod Going
pub mod Shrink
-- what crates above name by way of this one
pub use Rattle.r4_extent_growth.specs.r4_extent_build
pub use Rattle.r4_extent_growth.specs.r4_extent_change
pub use Rattle.r4_extent_growth.specs.r4_extent_demands
pub use Rattle.r4_extent_growth.specs.r4_extent_loss
pub use Rattle.r4_extent_growth.specs.r4_measure
pub use Rattle.r4_extent_growth.specs as r4_extent_growth
