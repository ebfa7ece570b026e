pub mod Pool
pub mod Path
pub mod Place
pub mod Keeping
pub mod OnDevice
-- what crates above name by way of this one
pub use Rattle.r4_cell.specs as r4_cell
