pub mod Objects
pub mod Joined
pub mod Placed
pub mod Parts
pub mod Halves
pub mod Parted
pub mod SplicedNames
pub mod FoundPlaces
-- what crates above name by way of this one
pub use Rattle.r4_branch.proofs as r4_branch
pub use Rattle.r4_branch.proofs.r4_node40
