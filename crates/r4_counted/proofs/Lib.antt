pub mod Taken
-- what crates above name by way of this one
pub use Rattle.r4_suited.proofs.r4_patch
