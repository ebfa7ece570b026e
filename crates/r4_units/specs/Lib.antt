pub mod Leaf
pub mod Extent
-- what crates above name by way of this one
pub use Rattle.r4_search.specs.r4_cell
pub use Rattle.r4_search.specs as r4_search
pub use Rattle.r4_node40.specs as r4_node40
