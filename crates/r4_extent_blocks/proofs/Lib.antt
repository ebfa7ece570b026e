pub mod Sets
pub mod MadeCells
-- what crates above name by way of this one
pub use Rattle.r4_cell.proofs.r4_node40
