pub mod Turned
-- what crates above name by way of this one
pub use Rattle.r4_extent_moves.specs.r4_extent_turned
pub use Rattle.r4_extent_moves.specs as r4_extent_moves
pub use Rattle.r4_extent_moves.specs.r4_extent_shrink
pub use Rattle.r4_extent_moves.specs.r4_extent_growth
pub use Rattle.r4_extent_moves.specs.r4_extent_put
pub use Rattle.r4_extent_moves.specs.r4_build
pub use Rattle.r4_extent_moves.specs.r4_allowed
