pub mod Matching
pub mod Nearest
-- what crates above name by way of this one
pub use Rattle.r4_build.specs as r4_build
