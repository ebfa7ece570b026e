pub mod Moving
pub mod Grown
pub mod Lost
-- what crates above name by way of this one
pub use Rattle.r4_applied.specs as r4_applied
pub use Rattle.r4_allowed.specs.r4_extent_change
pub use Rattle.r4_allowed.specs.r4_extent_turned
pub use Rattle.r4_allowed.specs.r4_extent_shrink
pub use Rattle.r4_allowed.specs.r4_extent_growth
pub use Rattle.r4_allowed.specs.r4_extent_put
pub use Rattle.r4_applied.specs.r4_build
pub use Rattle.r4_allowed.specs as r4_allowed
