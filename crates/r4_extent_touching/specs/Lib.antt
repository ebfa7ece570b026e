pub mod Holding
-- what crates above name by way of this one
pub use Rattle.r4_marking.specs as r4_marking
pub use Rattle.r4_touching.specs.r4_sight
