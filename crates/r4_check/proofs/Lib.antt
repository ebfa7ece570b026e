pub mod Steps
pub mod Walks
pub mod Tallies
pub mod Stats
pub mod Items
pub mod BlockSets
pub mod Meets
pub mod Answered
pub mod Kept
pub mod Placed
pub mod Closed
pub mod Nodes
pub mod Parents
pub mod Judged
-- what crates above name by way of this one
pub use Rattle.r4_cell.proofs as r4_cell
pub use Rattle.r4_list.proofs as r4_list
