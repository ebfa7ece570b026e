-- what crates above name by way of this one
pub use Rattle.r4_cell.proofs as r4_cell
pub use Rattle.r4_cell.proofs.r4_twig
