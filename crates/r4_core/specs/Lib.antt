pub mod Opening
pub mod Handing
pub mod Rooms
pub mod FusingAll
pub mod RefusingOut
pub mod Doing
-- what crates above name by way of this one
pub use Rattle.r4_ready.specs.r4_build
pub use Rattle.r4_flushing.specs.r4_flush
pub use Rattle.r4_flushing.specs as r4_flushing
pub use Rattle.r4_others.specs.r4_history
pub use Rattle.r4_ready.specs.r4_kept
pub use Rattle.r4_ready.specs.r4_leaf_edits
pub use Rattle.r4_start.specs.r4_open
pub use Rattle.r4_others.specs as r4_others
pub use Rattle.r4_ready.specs.r4_patch
pub use Rattle.r4_ready.specs.r4_reach
pub use Rattle.r4_ready.specs.r4_extent_reaching
pub use Rattle.r4_ready.specs.r4_reaching
pub use Rattle.r4_ready.specs as r4_ready
pub use Rattle.r4_start.specs.r4_rooms
pub use Rattle.r4_script.specs as r4_script
pub use Rattle.r4_ready.specs.r4_serve
pub use Rattle.r4_start.specs as r4_start
pub use Rattle.r4_ready.specs.r4_taking
pub use Rattle.r4_trace.specs as r4_trace
pub use Rattle.r4_wander.specs as r4_wander
pub use Rattle.r4_ready.specs.r4_suited
