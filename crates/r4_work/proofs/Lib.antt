pub mod Paths
pub mod Places
pub mod Halving
pub mod InPlace
pub mod Ranges
pub mod Ups
pub mod LeafEffect
pub mod UnitMembers
pub mod Starting
pub mod Remade
-- what crates above name by way of this one
pub use Rattle.r4_edit.proofs as r4_edit
pub use Rattle.r4_edit.proofs.r4_cell
pub use Rattle.r4_edit.proofs.r4_patch
pub use Rattle.r4_edit.proofs.r4_leaf
pub use Rattle.r4_edit.proofs.r4_branch
pub use Rattle.r4_edit.proofs.r4_graft
pub use Rattle.r4_edit.proofs.r4_path
