pub mod Anew
pub mod Asked
pub mod Prepared
pub mod Joined
-- what crates above name by way of this one
pub use Rattle.r4_cell.specs as r4_cell
pub use Rattle.r4_flushed.specs.r4_commit
pub use Rattle.r4_flushed.specs as r4_flushed
pub use Rattle.r4_place.specs as r4_place
pub use Rattle.r4_flushed.specs.r4_placed
pub use Rattle.r4_flushed.specs.r4_sealed
pub use Rattle.r4_flushed.specs.r4_sets
pub use Rattle.r4_flushed.specs.r4_sets_told
pub use Rattle.r4_flushed.specs.r4_wander
