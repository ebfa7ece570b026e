pub mod Starting
-- what crates above name by way of this one
pub use Rattle.r4_open.specs as r4_open
pub use Rattle.r4_replay.specs as r4_replay
pub use Rattle.r4_rooms.specs as r4_rooms
