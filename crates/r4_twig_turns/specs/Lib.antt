pub mod Turning
-- what crates above name by way of this one
pub use Rattle.r4_twig_work.specs.r4_measure
pub use Rattle.r4_twig_work.specs as r4_twig_work
pub use Rattle.r4_twig_work.specs.r4_patch
pub use Rattle.r4_twig_work.specs.r4_work
pub use Rattle.r4_twig_work.specs.r4_edit
pub use Rattle.r4_twig_work.specs.r4_extent_edit
