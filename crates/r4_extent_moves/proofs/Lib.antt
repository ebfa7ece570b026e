pub mod BodyKeys
mod BytesSet
mod BesideBytes
mod StoodBody
mod GrownBody
mod SuitedBytes
pub mod OutsideBody
pub mod ThenThere
pub mod GrownMoves
pub mod LostMoves
pub mod Moved
pub mod Standing
-- what crates above name by way of this one
pub use Rattle.r4_applied.proofs as r4_applied
pub use Rattle.r4_allowed.proofs.r4_extent_turned
pub use Rattle.r4_allowed.proofs.r4_extent_shrink
pub use Rattle.r4_allowed.proofs.r4_extent_growth
pub use Rattle.r4_allowed.proofs.r4_extent_put
pub use Rattle.r4_applied.proofs.r4_build
pub use Rattle.r4_allowed.proofs as r4_allowed
