pub mod CellPlaces
pub mod HeldBlocks
pub mod FoundBlocks
pub mod NewHomes
pub mod PlanFacts
pub mod PlanMaking
pub mod Differing
pub mod Safety
pub mod NewImage
pub mod Bounds
pub mod KeptVolumes
pub mod Instance
-- what crates above name by way of this one
pub use Rattle.r4_place.proofs as r4_place
pub use Rattle.r4_wander.proofs as r4_wander
