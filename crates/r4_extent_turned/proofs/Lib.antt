pub mod KeptRoom
pub mod TurnWhole
pub mod TurnSteps
pub mod Suited
pub mod Looked
pub mod TurnSuits
pub mod FoundTurns
-- what crates above name by way of this one
pub use Rattle.r4_extent_turn.proofs as r4_extent_turn
pub use Rattle.r4_extent_shrink.proofs.r4_extent_change
pub use Rattle.r4_extent_shrink.proofs.r4_extent_growth
pub use Rattle.r4_extent_shrink.proofs as r4_extent_shrink
