mod Owners
mod Becoming
mod Splitting
mod Lent
-- what crates above name by way of this one
pub use Rattle.r4_cell.proofs as r4_cell
pub use Rattle.r4_commit.proofs as r4_commit
pub use Rattle.r4_history.proofs as r4_history
pub use Rattle.r4_extent_reach.proofs.r4_patch
pub use Rattle.r4_extent_reach.proofs.r4_reaching
pub use Rattle.r4_search.proofs as r4_search
pub use Rattle.r4_extent_reach.proofs.r4_spared
pub use Rattle.r4_commit.proofs.r4_wander
