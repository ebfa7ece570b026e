pub mod Put
pub mod LawfulKeys
-- what crates above name by way of this one
pub use Rattle.r4_turned_tasks.specs.r4_extent_put
pub use Rattle.r4_turned_tasks.specs.r4_task_moves
pub use Rattle.r4_turned_tasks.specs.r4_build
pub use Rattle.r4_turned_tasks.specs.r4_allowed
pub use Rattle.r4_turned_tasks.specs.r4_lost_tasks
pub use Rattle.r4_turned_tasks.specs as r4_turned_tasks
pub use Rattle.r4_turned_tasks.specs.r4_grown_tasks
