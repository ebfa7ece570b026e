pub mod Between
pub mod Adding
pub mod Twigs
pub mod Holes
pub mod Bodies
pub mod Stretching
pub mod Fetching
-- what crates above name by way of this one
pub use Rattle.r4_units.proofs as r4_units
