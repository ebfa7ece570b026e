pub mod Built
-- what crates above name by way of this one
pub use Rattle.r4_freed.specs.r4_accounting
pub use Rattle.r4_freed.specs.r4_done
pub use Rattle.r4_freed.specs.r4_durable
pub use Rattle.r4_freed.specs as r4_freed
pub use Rattle.r4_freed.specs.r4_kept
pub use Rattle.r4_freed.specs.r4_suited
