pub mod Applying
-- what crates above name by way of this one
pub use Rattle.r4_build.specs as r4_build
pub use Rattle.r4_sets_told.specs.r4_patch
pub use Rattle.r4_build.specs.r4_path
pub use Rattle.r4_build.specs.r4_reach
pub use Rattle.r4_sets_told.specs.r4_sets
pub use Rattle.r4_sets_told.specs as r4_sets_told
pub use Rattle.r4_sets_told.specs.r4_trace
