pub mod Places
pub mod Planned
pub mod Plannable
pub mod Held
pub mod Volumes
-- what crates above name by way of this one
pub use Rattle.r4_place.specs.r4_cell
pub use Rattle.r4_place.specs as r4_place
pub use Rattle.r4_space.specs as r4_space
pub use Rattle.r4_wander.specs as r4_wander
