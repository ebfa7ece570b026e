pub mod SecondRoot
pub mod Joining
pub mod Part
pub mod Following
pub mod Effect
-- what crates above name by way of this one
pub use Rattle.r4_cell.specs as r4_cell
