pub mod Whole
pub mod Finding
pub mod Suiting
pub mod MayTurn
-- what crates above name by way of this one
pub use Rattle.r4_extent_turn.specs as r4_extent_turn
pub use Rattle.r4_extent_shrink.specs.r4_extent_change
pub use Rattle.r4_extent_shrink.specs.r4_extent_growth
pub use Rattle.r4_extent_shrink.specs as r4_extent_shrink
