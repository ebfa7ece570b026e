pub mod Bodies
-- what crates above name by way of this one
pub use Rattle.r4_suited.specs as r4_suited
pub use Rattle.r4_suited.specs.r4_cell
