pub mod Heard
pub mod Same
pub mod Trees
pub mod Plain
pub mod Enough
pub mod Answers
pub mod FirstKeys
-- what crates above name by way of this one
pub use Rattle.r4_path.proofs.r4_branch
pub use Rattle.r4_path.proofs.r4_cell
pub use Rattle.r4_path.proofs.r4_graft
pub use Rattle.r4_path.proofs.r4_leaf
pub use Rattle.r4_path.proofs.r4_node40
pub use Rattle.r4_path.proofs.r4_patch
pub use Rattle.r4_path.proofs as r4_path
