pub mod Renamed
pub mod Renaming
pub mod Steps
-- what crates above name by way of this one
pub use Rattle.r4_buffer.specs as r4_buffer
pub use Rattle.r4_flush.specs.r4_commit
pub use Rattle.r4_flush.specs as r4_flush
pub use Rattle.r4_flush.specs.r4_flushed
pub use Rattle.r4_flush.specs.r4_place
pub use Rattle.r4_flush.specs.r4_placed
pub use Rattle.r4_turns.specs.r4_script
pub use Rattle.r4_flush.specs.r4_sealed
pub use Rattle.r4_flush.specs.r4_sets
pub use Rattle.r4_flush.specs.r4_sets_told
pub use Rattle.r4_turns.specs as r4_turns
pub use Rattle.r4_flush.specs.r4_wander
