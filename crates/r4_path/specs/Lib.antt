pub mod ExtentPut
pub mod Grafts
pub mod Growing
pub mod LeafSteps
pub mod Levels
pub mod Nodes
pub mod Rows
pub mod Sharing
pub mod Steps
pub mod TwigPieces
pub mod Twigs
-- what crates above name by way of this one
pub use Rattle.r4_graft.specs.r4_branch
pub use Rattle.r4_leaf.specs.r4_cde
pub use Rattle.r4_patch.specs.r4_cell
pub use Rattle.r4_graft.specs as r4_graft
pub use Rattle.r4_leaf.specs as r4_leaf
pub use Rattle.r4_leaf.specs.r4_node40
pub use Rattle.r4_patch.specs as r4_patch
