pub mod Tests
pub mod AllTurn
mod InLeaves
mod Gaps
pub mod Turns
pub mod Found
mod Complete
-- what crates above name by way of this one
pub use Rattle.r4_extent_change.proofs as r4_extent_change
pub use Rattle.r4_twig_asks.proofs.r4_graft
pub use Rattle.r4_extent_change.proofs.r4_measure
pub use Rattle.r4_extent_change.proofs.r4_extent_loss
pub use Rattle.r4_twig_asks.proofs.r4_leaf_demands
pub use Rattle.r4_twig_asks.proofs.r4_extent_demands
