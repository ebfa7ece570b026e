pub mod Marks
-- what crates above name by way of this one
pub use Rattle.r4_reach.specs.r4_patch
pub use Rattle.r4_reach.specs.r4_path
pub use Rattle.r4_reach.specs as r4_reach
pub use Rattle.r4_search.specs as r4_search
pub use Rattle.r4_node40.specs as r4_node40
