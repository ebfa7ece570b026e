mod Pieces
pub mod Spared
mod Climbing
mod Charges
mod Shapes
mod Small
mod Lawful
mod Found
pub mod Answered
mod FreshLeaves
-- what crates above name by way of this one
pub use Rattle.r4_suited.proofs as r4_suited
pub use Rattle.r4_build.proofs.r4_work
