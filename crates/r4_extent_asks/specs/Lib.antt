pub mod Demands
pub mod Widening
pub mod Behind
-- what crates above name by way of this one
pub use Rattle.r4_twig_asks.specs.r4_leaf_edits
pub use Rattle.r4_twig_asks.specs.r4_extent_demands
pub use Rattle.r4_twig_asks.specs.r4_marking
pub use Rattle.r4_units.specs.r4_search
pub use Rattle.r4_twig_asks.specs.r4_bodies
