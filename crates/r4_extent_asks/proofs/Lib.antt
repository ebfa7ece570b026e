pub mod Measured
pub mod Named
pub mod AtCells
pub mod Staying
pub mod Naming
pub mod Adding
pub mod Widened
pub mod Asks
-- what crates above name by way of this one
pub use Rattle.r4_twig_asks.proofs.r4_leaf_edits
pub use Rattle.r4_twig_asks.proofs.r4_path
pub use Rattle.r4_twig_asks.proofs.r4_extent_demands
pub use Rattle.r4_units.proofs.r4_search
