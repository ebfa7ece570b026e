pub mod Mkfs
-- what crates above name by way of this one
pub use Rattle.r4_cell.specs as r4_cell
