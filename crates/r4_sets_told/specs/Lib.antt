pub mod Runs
pub mod Touched
pub mod Images
-- what crates above name by way of this one
pub use Rattle.r4_sets.specs.r4_cell
pub use Rattle.r4_sets.specs.r4_patch
pub use Rattle.r4_sets.specs as r4_sets
pub use Rattle.r4_sets.specs.r4_trace
