pub mod Flushed
pub mod Deferred
pub mod Sample
-- what crates above name by way of this one
pub use Rattle.r4_placed.specs.r4_commit
pub use Rattle.r4_placed.specs.r4_place
pub use Rattle.r4_placed.specs as r4_placed
pub use Rattle.r4_placed.specs.r4_sealed
pub use Rattle.r4_placed.specs.r4_sets
pub use Rattle.r4_placed.specs.r4_sets_told
pub use Rattle.r4_placed.specs.r4_trace
pub use Rattle.r4_placed.specs.r4_wander
