pub mod Numbering
pub mod Growing
pub mod Turns
pub mod Setting
pub mod Looping
-- what crates above name by way of this one
pub use Rattle.r4_twig_turns.specs as r4_twig_turns
pub use Rattle.r4_extent_blocks.specs.r4_node40
pub use Rattle.r4_extent_demands.specs.r4_cell
pub use Rattle.r4_twig_turns.specs.r4_patch
pub use Rattle.r4_extent_demands.specs.r4_branch
pub use Rattle.r4_extent_demands.specs.r4_graft
pub use Rattle.r4_extent_demands.specs.r4_leaf
pub use Rattle.r4_extent_demands.specs.r4_path
pub use Rattle.r4_extent_demands.specs.r4_reach
pub use Rattle.r4_twig_turns.specs.r4_edit
pub use Rattle.r4_twig_turns.specs.r4_work
pub use Rattle.r4_twig_turns.specs.r4_measure
pub use Rattle.r4_twig_turns.specs.r4_twig_work
pub use Rattle.r4_extent_demands.specs as r4_extent_demands
pub use Rattle.r4_twig_turns.specs.r4_extent_edit
pub use Rattle.r4_extent_blocks.specs as r4_extent_blocks
pub use Rattle.r4_extent_demands.specs.r4_leaf_demands
