pub mod Serving
-- what crates above name by way of this one
pub use Rattle.r4_take.specs.r4_buffer
pub use Rattle.r4_take.specs.r4_core
pub use Rattle.r4_take.specs.r4_kept
pub use Rattle.r4_take.specs.r4_open
pub use Rattle.r4_take.specs.r4_extent_reaching
pub use Rattle.r4_take.specs.r4_reaching
pub use Rattle.r4_take.specs.r4_ready
pub use Rattle.r4_take.specs.r4_seal
pub use Rattle.r4_take.specs.r4_search
pub use Rattle.r4_take.specs.r4_serve
pub use Rattle.r4_take.specs.r4_start
pub use Rattle.r4_take.specs as r4_take
