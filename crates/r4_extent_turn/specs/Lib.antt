pub mod Gathering
pub mod Turning
pub mod Keeping
pub mod TurningIn
pub mod TurnedOut
pub mod Asked
-- what crates above name by way of this one
pub use Rattle.r4_sight.specs as r4_sight
