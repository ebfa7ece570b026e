pub mod Freed
-- what crates above name by way of this one
pub use Rattle.r4_accounting.specs as r4_accounting
pub use Rattle.r4_accounting.specs.r4_cell
pub use Rattle.r4_accounting.specs.r4_done
pub use Rattle.r4_accounting.specs.r4_durable
pub use Rattle.r4_accounting.specs.r4_flushed
pub use Rattle.r4_accounting.specs.r4_history
pub use Rattle.r4_accounting.specs.r4_kept
pub use Rattle.r4_accounting.specs.r4_suited
pub use Rattle.r4_accounting.specs.r4_turns
