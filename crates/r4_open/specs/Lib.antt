pub mod Opening
-- what crates above name by way of this one
pub use Rattle.r4_replay.specs as r4_replay
pub use Rattle.r4_space.specs as r4_space
