pub mod Commits
pub mod Written
pub mod Contents
-- what crates above name by way of this one
pub use Rattle.r4_commit.specs.r4_cell
pub use Rattle.r4_commit.specs as r4_commit
pub use Rattle.r4_commit.specs.r4_place
pub use Rattle.r4_sets_told.specs.r4_sets
pub use Rattle.r4_sets_told.specs as r4_sets_told
pub use Rattle.r4_commit.specs.r4_space
pub use Rattle.r4_sets_told.specs.r4_trace
pub use Rattle.r4_commit.specs.r4_wander
