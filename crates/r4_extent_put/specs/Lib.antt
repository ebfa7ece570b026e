pub mod Whole
pub mod Putting
pub mod Taking
pub mod Allowing
-- what crates above name by way of this one
pub use Rattle.r4_extent_turned.specs.r4_extent_growth
pub use Rattle.r4_extent_among.specs as r4_extent_among
pub use Rattle.r4_extent_turned.specs.r4_extent_growth.r4_extent_demands
pub use Rattle.r4_extent_turned.specs.r4_extent_change
pub use Rattle.r4_extent_turned.specs as r4_extent_turned
pub use Rattle.r4_extent_turned.specs.r4_extent_shrink
