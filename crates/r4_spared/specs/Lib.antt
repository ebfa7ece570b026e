pub mod Spared
pub mod Examples
-- what crates above name by way of this one
pub use Rattle.r4_build.specs as r4_build
pub use Rattle.r4_suited.specs as r4_suited
pub use Rattle.r4_build.specs.r4_work
