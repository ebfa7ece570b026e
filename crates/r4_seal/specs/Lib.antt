pub mod Cells
pub mod Checked
pub mod Waiting
pub mod Flushing
-- what crates above name by way of this one
pub use Rattle.r4_buffer.specs as r4_buffer
pub use Rattle.r4_core.specs.r4_build
pub use Rattle.r4_core.specs as r4_core
pub use Rattle.r4_core.specs.r4_history
pub use Rattle.r4_core.specs.r4_kept
pub use Rattle.r4_core.specs.r4_leaf_edits
pub use Rattle.r4_core.specs.r4_open
pub use Rattle.r4_core.specs.r4_others
pub use Rattle.r4_core.specs.r4_patch
pub use Rattle.r4_core.specs.r4_reach
pub use Rattle.r4_core.specs.r4_extent_reaching
pub use Rattle.r4_core.specs.r4_reaching
pub use Rattle.r4_core.specs.r4_ready
pub use Rattle.r4_core.specs.r4_rooms
pub use Rattle.r4_buffer.specs.r4_search
pub use Rattle.r4_core.specs.r4_serve
pub use Rattle.r4_core.specs.r4_start
pub use Rattle.r4_core.specs.r4_taking
pub use Rattle.r4_core.specs.r4_trace
pub use Rattle.r4_core.specs.r4_suited
