pub mod Flushing
pub mod RenamedItems
-- what crates above name by way of this one
pub use Rattle.r4_sealed.specs.r4_cell
pub use Rattle.r4_sealed.specs.r4_commit
pub use Rattle.r4_sealed.specs.r4_place
pub use Rattle.r4_sealed.specs as r4_sealed
pub use Rattle.r4_sealed.specs.r4_sets
pub use Rattle.r4_sealed.specs.r4_sets_told
pub use Rattle.r4_sealed.specs.r4_space
pub use Rattle.r4_sealed.specs.r4_trace
pub use Rattle.r4_sealed.specs.r4_wander
