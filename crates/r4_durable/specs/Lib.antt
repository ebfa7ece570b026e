pub mod Meaning
pub mod Sealing
pub mod Kept
pub mod GoingOn
-- what crates above name by way of this one
pub use Rattle.r4_flushed.specs.r4_commit
pub use Rattle.r4_flushed.specs as r4_flushed
pub use Rattle.r4_flushed.specs.r4_placed
pub use Rattle.r4_flushed.specs.r4_sealed
pub use Rattle.r4_flushed.specs.r4_sets
pub use Rattle.r4_flushed.specs.r4_sets_told
pub use Rattle.r4_open.specs.r4_space
pub use Rattle.r4_flushed.specs.r4_wander
