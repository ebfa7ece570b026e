pub mod FlushedCells
pub mod Gathering
pub mod Remembering
pub mod Sealing
pub mod Owned
pub mod Deferring
pub mod OneCell
-- what crates above name by way of this one
pub use Rattle.r4_placed.proofs.r4_commit
pub use Rattle.r4_placed.proofs as r4_placed
pub use Rattle.r4_placed.proofs.r4_sealed
pub use Rattle.r4_placed.proofs.r4_sets
pub use Rattle.r4_placed.proofs.r4_sets_told
pub use Rattle.r4_placed.proofs.r4_trace
pub use Rattle.r4_placed.proofs.r4_wander
