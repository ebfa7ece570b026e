pub mod Serving
-- what crates above name by way of this one
pub use Rattle.r4_buffer.specs as r4_buffer
pub use Rattle.r4_cell.specs as r4_cell
pub use Rattle.r4_commit.specs as r4_commit
pub use Rattle.r4_extent_reach.specs.r4_gather
pub use Rattle.r4_history.specs as r4_history
pub use Rattle.r4_extent_reach.specs.r4_reaching.r4_judging
pub use Rattle.r4_extent_reach.specs.r4_reaching.r4_leaf_edits
pub use Rattle.r4_extent_reach.specs.r4_patch
pub use Rattle.r4_extent_reach.specs.r4_reaching.r4_path
pub use Rattle.r4_extent_reach.specs.r4_reach
pub use Rattle.r4_extent_reach.specs.r4_reaching
pub use Rattle.r4_extent_reach.specs.r4_extent_reaching
pub use Rattle.r4_search.specs as r4_search
pub use Rattle.r4_commit.specs.r4_space
pub use Rattle.r4_extent_reach.specs.r4_spared
pub use Rattle.r4_history.specs.r4_trace
pub use Rattle.r4_history.specs.r4_turns
pub use Rattle.r4_commit.specs.r4_wander
