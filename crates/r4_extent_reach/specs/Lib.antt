pub mod Standing
pub mod Meeting
pub mod Known
-- what crates above name by way of this one
pub use Rattle.r4_extent_reaching.specs as r4_extent_reaching
pub use Rattle.r4_extent_reaching.specs.r4_reaching
pub use Rattle.r4_extent_reaching.specs.r4_touching.r4_gather
pub use Rattle.r4_extent_reaching.specs.r4_touching.r4_patch
pub use Rattle.r4_extent_reaching.specs.r4_touching.r4_reach
pub use Rattle.r4_extent_reaching.specs.r4_spared
