pub mod TurnedTask
-- what crates above name by way of this one
pub use Rattle.r4_grown_tasks.proofs.r4_turned_moves.r4_extent_turned
pub use Rattle.r4_grown_tasks.proofs.r4_extent_put
pub use Rattle.r4_grown_tasks.proofs.r4_task_moves
pub use Rattle.r4_grown_tasks.proofs.r4_build
pub use Rattle.r4_grown_tasks.proofs.r4_allowed
pub use Rattle.r4_grown_tasks.proofs.r4_lost_tasks
pub use Rattle.r4_grown_tasks.proofs as r4_grown_tasks
