pub mod Demand
pub mod Reach
pub mod Touched
pub mod Needs
pub mod Enough
pub mod Answer
pub mod Leaves
pub mod Alike
pub mod Examples
-- what crates above name by way of this one
pub use Rattle.r4_path.specs.r4_branch
pub use Rattle.r4_path.specs.r4_cde
pub use Rattle.r4_path.specs.r4_cell
pub use Rattle.r4_path.specs.r4_leaf
pub use Rattle.r4_path.specs.r4_patch
pub use Rattle.r4_path.specs as r4_path
