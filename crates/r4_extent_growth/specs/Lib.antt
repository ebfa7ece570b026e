pub mod Coming
pub mod Turning
pub mod Lying
pub mod Growth
-- what crates above name by way of this one
pub use Rattle.r4_extent_change.specs as r4_extent_change
pub use Rattle.r4_twig_asks.specs.r4_leaf_edits
pub use Rattle.r4_extent_change.specs.r4_measure
pub use Rattle.r4_twig_asks.specs.r4_extent_demands
pub use Rattle.r4_extent_change.specs.r4_extent_build
pub use Rattle.r4_extent_change.specs.r4_build
pub use Rattle.r4_extent_change.specs.r4_extent_loss
