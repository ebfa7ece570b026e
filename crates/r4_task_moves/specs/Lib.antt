pub mod Doing
pub mod Alike
-- what crates above name by way of this one
pub use Rattle.r4_turned_moves.specs.r4_extent_moves
pub use Rattle.r4_turned_moves.specs.r4_extent_shrink
pub use Rattle.r4_turned_moves.specs as r4_turned_moves
pub use Rattle.r4_turned_moves.specs.r4_extent_growth
pub use Rattle.r4_turned_moves.specs.r4_extent_put
pub use Rattle.r4_turned_moves.specs.r4_build
pub use Rattle.r4_turned_moves.specs.r4_allowed
