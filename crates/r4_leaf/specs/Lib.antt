pub mod Units
pub mod Leaves
pub mod Pieces
pub mod Items
pub mod Filling
pub mod Packing
pub mod Remade
pub mod Runs
pub mod Measure
-- what crates above name by way of this one
pub use Rattle.r4_cde.specs as r4_cde
pub use Rattle.r4_node40.specs as r4_node40
