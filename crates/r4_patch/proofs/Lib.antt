pub mod PartCells
pub mod Placed
pub mod Sets
pub mod Converse
pub mod Joined
pub mod SecondRoot
pub mod Shared
pub mod Union
pub mod Changes
pub mod Members
pub mod PatchesFollow
pub mod Followed
pub mod LeftOut
pub mod Holding
pub mod Effects
pub mod PartUnits
-- what crates above name by way of this one
pub use Rattle.r4_cell.proofs as r4_cell
