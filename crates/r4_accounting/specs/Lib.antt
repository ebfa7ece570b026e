pub mod Accounting
pub mod Putting
-- what crates above name by way of this one
pub use Rattle.r4_done.specs.r4_buffer
pub use Rattle.r4_cell.specs as r4_cell
pub use Rattle.r4_done.specs.r4_commit
pub use Rattle.r4_done.specs as r4_done
pub use Rattle.r4_done.specs.r4_durable
pub use Rattle.r4_done.specs.r4_flushed
pub use Rattle.r4_done.specs.r4_history
pub use Rattle.r4_done.specs.r4_kept
pub use Rattle.r4_done.specs.r4_sealed
pub use Rattle.r4_done.specs.r4_sets
pub use Rattle.r4_done.specs.r4_suited
pub use Rattle.r4_done.specs.r4_taking
pub use Rattle.r4_done.specs.r4_trace
pub use Rattle.r4_done.specs.r4_turns
