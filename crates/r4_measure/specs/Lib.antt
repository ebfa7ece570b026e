pub mod Budget
pub mod Leaving
pub mod Measured
pub mod Loop
pub mod Asked
pub mod Begin
pub mod Examples
pub mod Grafting
-- what crates above name by way of this one
pub use Rattle.r4_reach.specs.r4_branch
pub use Rattle.r4_reach.specs.r4_cell
pub use Rattle.r4_work.specs.r4_edit
pub use Rattle.r4_reach.specs.r4_leaf
pub use Rattle.r4_reach.specs.r4_patch
pub use Rattle.r4_reach.specs.r4_path
pub use Rattle.r4_reach.specs as r4_reach
pub use Rattle.r4_work.specs as r4_work
