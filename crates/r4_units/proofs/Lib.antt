pub mod Rising
pub mod Leaves
pub mod ItemUnits
pub mod LeafUnits
pub mod ExtentUnits
-- what crates above name by way of this one
pub use Rattle.r4_search.proofs.r4_cell
pub use Rattle.r4_search.proofs as r4_search
