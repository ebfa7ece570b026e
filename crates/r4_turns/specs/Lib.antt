pub mod Turns
pub mod Kept
-- what crates above name by way of this one
pub use Rattle.r4_cell.specs as r4_cell
pub use Rattle.r4_script.specs as r4_script
