pub mod Table
pub mod Allowing
pub mod Making
-- what crates above name by way of this one
pub use Rattle.r4_extent_put.specs.r4_extent_change
pub use Rattle.r4_extent_put.specs.r4_extent_turned
pub use Rattle.r4_extent_put.specs.r4_extent_shrink
pub use Rattle.r4_extent_put.specs.r4_extent_growth
pub use Rattle.r4_extent_put.specs as r4_extent_put
