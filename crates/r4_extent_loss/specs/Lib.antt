pub mod Losing
pub mod LosingEach
-- what crates above name by way of this one
pub use Rattle.r4_extent_build.specs as r4_extent_build
