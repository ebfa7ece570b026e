pub mod Readiness
pub mod Rooms
-- what crates above name by way of this one
pub use Rattle.r4_taking.specs.r4_build
pub use Rattle.r4_serve.specs.r4_commit
pub use Rattle.r4_taking.specs.r4_durable
pub use Rattle.r4_taking.specs.r4_kept
pub use Rattle.r4_serve.specs.r4_leaf_edits
pub use Rattle.r4_serve.specs.r4_patch
pub use Rattle.r4_serve.specs.r4_reach
pub use Rattle.r4_serve.specs.r4_extent_reaching
pub use Rattle.r4_serve.specs.r4_reaching
pub use Rattle.r4_serve.specs as r4_serve
pub use Rattle.r4_taking.specs as r4_taking
pub use Rattle.r4_taking.specs.r4_suited
