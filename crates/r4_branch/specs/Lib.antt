pub mod Pieces
pub mod Items
pub mod Filling
pub mod Twigs
pub mod Packing
-- what crates above name by way of this one
pub use Rattle.r4_node40.specs as r4_node40
