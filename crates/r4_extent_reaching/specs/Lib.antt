pub mod Standing
pub mod Alike
pub mod Answers
pub mod Meeting
pub mod Telling
pub mod Within
-- what crates above name by way of this one
pub use Rattle.r4_reaching.specs.r4_build
pub use Rattle.r4_extent_counts.specs as r4_extent_counts
pub use Rattle.r4_extent_touching.specs as r4_extent_touching
pub use Rattle.r4_reaching.specs as r4_reaching
pub use Rattle.r4_reaching.specs.r4_spared
pub use Rattle.r4_reaching.specs.r4_touching
