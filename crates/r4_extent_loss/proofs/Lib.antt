pub mod Clipped
pub mod Calm
pub mod LostPieces
pub mod Replaced
pub mod Taken
pub mod LosingTurns
pub mod LosingSets
pub mod AllLost
pub mod OneLoss
pub mod EachLoss
pub mod Ready
pub mod InParts
pub mod AllReady
pub mod LossChanges
pub mod LossCounts
pub mod Begins
-- what crates above name by way of this one
pub use Rattle.r4_extent_build.proofs.r4_twig_work.r4_extent_edit
pub use Rattle.r4_extent_build.proofs as r4_extent_build
