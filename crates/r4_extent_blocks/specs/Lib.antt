pub mod Setting
-- what crates above name by way of this one
pub use Rattle.r4_cell.specs.r4_node40
