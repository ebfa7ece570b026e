pub mod Known
pub mod Looking
pub mod Seeing
-- what crates above name by way of this one
pub use Rattle.r4_gather.specs as r4_gather
pub use Rattle.r4_patch.specs as r4_patch
pub use Rattle.r4_search.specs as r4_search
pub use Rattle.r4_sight.specs as r4_sight
