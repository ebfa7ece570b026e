pub mod Units
pub mod Session
pub mod Change
pub mod Atoms
pub mod Renaming
-- what crates above name by way of this one
pub use Rattle.r4_patch.specs.r4_cell
pub use Rattle.r4_patch.specs as r4_patch
pub use Rattle.r4_trace.specs as r4_trace
