mod TwigBytes
mod PutKeys
mod Untouched
pub mod PutMoves
mod LawfulKeys
-- what crates above name by way of this one
pub use Rattle.r4_turned_tasks.proofs.r4_extent_put
pub use Rattle.r4_turned_tasks.proofs.r4_build
pub use Rattle.r4_turned_tasks.proofs.r4_allowed
pub use Rattle.r4_turned_tasks.proofs.r4_lost_tasks
pub use Rattle.r4_turned_tasks.proofs as r4_turned_tasks
pub use Rattle.r4_turned_tasks.proofs.r4_grown_tasks
