pub mod Left
pub mod KeptTurn
pub mod TurnByTurn
-- what crates above name by way of this one
pub use Rattle.r4_twig_work.proofs.r4_measure
pub use Rattle.r4_twig_work.proofs.r4_work
pub use Rattle.r4_twig_work.proofs.r4_edit
pub use Rattle.r4_twig_work.proofs as r4_twig_work
pub use Rattle.r4_twig_work.proofs.r4_extent_edit
