pub mod Finishing
pub mod Stepping
-- what crates above name by way of this one
pub use Rattle.r4_apply.specs.r4_durable
pub use Rattle.r4_history.specs as r4_history
pub use Rattle.r4_apply.specs.r4_kept
pub use Rattle.r4_apply.specs.r4_open
pub use Rattle.r4_apply.specs.r4_start
