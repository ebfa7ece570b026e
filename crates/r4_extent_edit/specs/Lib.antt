pub mod Between
pub mod Effects
pub mod Setting
pub mod Spans
pub mod Turning
-- what crates above name by way of this one
pub use Rattle.r4_work.specs.r4_leaf
