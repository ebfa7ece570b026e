pub mod Doing
pub mod Done
pub mod Right
-- what crates above name by way of this one
pub use Rattle.r4_taking.specs.r4_buffer
pub use Rattle.r4_taking.specs.r4_commit
pub use Rattle.r4_taking.specs.r4_durable
pub use Rattle.r4_taking.specs.r4_flushed
pub use Rattle.r4_taking.specs.r4_history
pub use Rattle.r4_taking.specs.r4_kept
pub use Rattle.r4_taking.specs.r4_sealed
pub use Rattle.r4_taking.specs.r4_search
pub use Rattle.r4_taking.specs.r4_sets
pub use Rattle.r4_counted.specs.r4_suited
pub use Rattle.r4_taking.specs as r4_taking
pub use Rattle.r4_taking.specs.r4_trace
pub use Rattle.r4_taking.specs.r4_turns
