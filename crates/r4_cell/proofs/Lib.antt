pub mod BodyEnds
pub mod Faults
pub mod Rows
pub mod Parts
pub mod ItemRows
pub mod Items
pub mod NodesAt
pub mod NamesBelow
pub mod Nodes
mod FromImage
mod OnDisk
-- what crates above name by way of this one
pub use Rattle.r4_node40.proofs as r4_node40
pub use Rattle.r4_twig.proofs as r4_twig
