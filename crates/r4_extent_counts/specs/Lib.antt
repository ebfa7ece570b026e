pub mod Coming
-- what crates above name by way of this one
pub use Rattle.r4_extent_demands.specs as r4_extent_demands
