pub mod Backing
pub mod NextRefused
-- what crates above name by way of this one
pub use Rattle.r4_next.specs.r4_buffer
pub use Rattle.r4_matching.specs.r4_build
pub use Rattle.r4_next.specs.r4_core
pub use Rattle.r4_next.specs.r4_history
pub use Rattle.r4_matching.specs as r4_matching
pub use Rattle.r4_next.specs as r4_next
pub use Rattle.r4_next.specs.r4_open
pub use Rattle.r4_next.specs.r4_ready
pub use Rattle.r4_next.specs.r4_seal
pub use Rattle.r4_next.specs.r4_served
pub use Rattle.r4_next.specs.r4_start
pub use Rattle.r4_next.specs.r4_take
