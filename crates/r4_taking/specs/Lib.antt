pub mod Fusing
pub mod Refusing
pub mod GoingOut
pub mod Following
-- what crates above name by way of this one
pub use Rattle.r4_kept.specs.r4_buffer
pub use Rattle.r4_kept.specs.r4_build
pub use Rattle.r4_kept.specs.r4_cell
pub use Rattle.r4_kept.specs.r4_commit
pub use Rattle.r4_kept.specs.r4_durable
pub use Rattle.r4_kept.specs.r4_flushed
pub use Rattle.r4_kept.specs.r4_history
pub use Rattle.r4_kept.specs as r4_kept
pub use Rattle.r4_kept.specs.r4_locks
pub use Rattle.r4_kept.specs.r4_sealed
pub use Rattle.r4_kept.specs.r4_search
pub use Rattle.r4_kept.specs.r4_sets
pub use Rattle.r4_kept.specs.r4_sets_told
pub use Rattle.r4_kept.specs.r4_space
pub use Rattle.r4_kept.specs.r4_trace
pub use Rattle.r4_kept.specs.r4_turns
pub use Rattle.r4_kept.specs.r4_suited
