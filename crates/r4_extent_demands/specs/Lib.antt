pub mod Sizes
pub mod Pieces
pub mod Putting
pub mod Changing
pub mod Ranges
-- what crates above name by way of this one
pub use Rattle.r4_bodies.specs.r4_leaf_edits.r4_reach
pub use Rattle.r4_bodies.specs.r4_cell
pub use Rattle.r4_graft.specs.r4_branch
pub use Rattle.r4_bodies.specs.r4_marking
pub use Rattle.r4_bodies.specs.r4_leaf_edits
pub use Rattle.r4_bodies.specs.r4_leaf
pub use Rattle.r4_graft.specs as r4_graft
pub use Rattle.r4_bodies.specs.r4_path
pub use Rattle.r4_bodies.specs.r4_leaf_demands
pub use Rattle.r4_bodies.specs as r4_bodies
