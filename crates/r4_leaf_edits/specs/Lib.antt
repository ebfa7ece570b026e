pub mod Suiting
pub mod Made
pub mod Making
-- what crates above name by way of this one
pub use Rattle.r4_reach.specs.r4_cell
pub use Rattle.r4_reach.specs.r4_leaf
pub use Rattle.r4_reach.specs.r4_patch
pub use Rattle.r4_reach.specs.r4_path
pub use Rattle.r4_reach.specs as r4_reach
