pub mod Applying
-- what crates above name by way of this one
pub use Rattle.r4_back.specs as r4_back
pub use Rattle.r4_back.specs.r4_build
pub use Rattle.r4_right.specs.r4_durable
pub use Rattle.r4_right.specs.r4_kept
pub use Rattle.r4_back.specs.r4_next
pub use Rattle.r4_back.specs.r4_open
pub use Rattle.r4_back.specs.r4_ready
pub use Rattle.r4_back.specs.r4_seal
pub use Rattle.r4_back.specs.r4_served
pub use Rattle.r4_back.specs.r4_start
pub use Rattle.r4_back.specs.r4_take
pub use Rattle.r4_trace.specs as r4_trace
