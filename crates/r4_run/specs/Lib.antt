pub mod Completing
pub mod Ending
pub mod Generated
pub mod Naming
pub mod Running
pub mod Scripts
pub mod Showing
pub mod Stopping
-- what crates above name by way of this one
pub use Rattle.r4_shared.specs.r4_durable
