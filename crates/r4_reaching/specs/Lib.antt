pub mod Reaching
pub mod Gathering
pub mod Answers
-- what crates above name by way of this one
pub use Rattle.r4_bodies.specs as r4_bodies
pub use Rattle.r4_spared.specs.r4_build
pub use Rattle.r4_touching.specs.r4_gather
pub use Rattle.r4_judging.specs as r4_judging
pub use Rattle.r4_touching.specs.r4_leaf_edits
pub use Rattle.r4_touching.specs.r4_patch
pub use Rattle.r4_touching.specs.r4_path
pub use Rattle.r4_touching.specs.r4_reach
pub use Rattle.r4_touching.specs.r4_seeing
pub use Rattle.r4_spared.specs as r4_spared
pub use Rattle.r4_touching.specs as r4_touching
pub use Rattle.r4_spared.specs.r4_work
pub use Rattle.r4_cell.specs as r4_cell
pub use Rattle.r4_search.specs as r4_search
