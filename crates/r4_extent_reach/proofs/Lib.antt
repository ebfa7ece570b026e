mod Numbers
mod UpTo
pub mod Going
pub mod Hung
pub mod LeftMet
pub mod Stood
pub mod Planned
pub mod Stops
pub mod Ending
pub mod AllMet
-- what crates above name by way of this one
pub use Rattle.r4_extent_reaching.proofs.r4_touching.r4_patch
pub use Rattle.r4_extent_reaching.proofs.r4_reaching
pub use Rattle.r4_extent_reaching.proofs.r4_spared
