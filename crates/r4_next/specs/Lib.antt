pub mod Following
pub mod Order
pub mod Taking
-- what crates above name by way of this one
pub use Rattle.r4_served.specs.r4_buffer
pub use Rattle.r4_served.specs.r4_core
pub use Rattle.r4_history.specs as r4_history
pub use Rattle.r4_served.specs.r4_kept
pub use Rattle.r4_served.specs.r4_open
pub use Rattle.r4_served.specs.r4_ready
pub use Rattle.r4_served.specs.r4_seal
pub use Rattle.r4_served.specs as r4_served
pub use Rattle.r4_served.specs.r4_start
pub use Rattle.r4_served.specs.r4_take
pub use Rattle.r4_history.specs.r4_trace
