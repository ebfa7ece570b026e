pub mod Openings
-- what crates above name by way of this one
pub use Rattle.r4_space.proofs as r4_space
