pub mod AtStart
mod TwigTurn
mod AllTurned
mod GrownTurns
pub mod LeafTurns
pub mod NoBytes
mod Effects
pub mod Chosen
mod LossAmong
pub mod GoneKeys
mod LostTurns
mod LostWhole
mod LostSteps
mod Whole
mod Steps
-- what crates above name by way of this one
pub use Rattle.r4_extent_loss.proofs.r4_extent_build
pub use Rattle.r4_build.proofs.r4_measure
pub use Rattle.r4_build.proofs as r4_build
pub use Rattle.r4_extent_loss.proofs as r4_extent_loss
