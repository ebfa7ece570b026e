pub mod Overwriting
-- what crates above name by way of this one
pub use Rattle.r4_extent_blocks.specs as r4_extent_blocks
pub use Rattle.r4_extent_blocks.specs.r4_node40
