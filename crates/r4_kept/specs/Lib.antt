pub mod View
pub mod Naming
pub mod History
pub mod Tables
pub mod Accounts
pub mod Cells
pub mod TasksOut
pub mod Story
pub mod Meaning
pub mod Durable
pub mod Kept
pub mod Steps
-- what crates above name by way of this one
pub use Rattle.r4_buffer.specs as r4_buffer
pub use Rattle.r4_build.specs as r4_build
pub use Rattle.r4_history.specs.r4_cell
pub use Rattle.r4_durable.specs.r4_commit
pub use Rattle.r4_durable.specs as r4_durable
pub use Rattle.r4_durable.specs.r4_flushed
pub use Rattle.r4_history.specs as r4_history
pub use Rattle.r4_history.specs.r4_locks
pub use Rattle.r4_build.specs.r4_patch
pub use Rattle.r4_history.specs.r4_script
pub use Rattle.r4_durable.specs.r4_sealed
pub use Rattle.r4_buffer.specs.r4_search
pub use Rattle.r4_durable.specs.r4_sets
pub use Rattle.r4_durable.specs.r4_sets_told
pub use Rattle.r4_durable.specs.r4_space
pub use Rattle.r4_history.specs.r4_trace
pub use Rattle.r4_history.specs.r4_turns
pub use Rattle.r4_suited.specs as r4_suited
