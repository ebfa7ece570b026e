pub mod Rooms
-- what crates above name by way of this one
pub use Rattle.r4_kept.specs.r4_durable
pub use Rattle.r4_kept.specs as r4_kept
pub use Rattle.r4_turns.specs as r4_turns
