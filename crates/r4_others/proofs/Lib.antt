pub mod Firsts
pub mod Owners
-- what crates above name by way of this one
pub use Rattle.r4_history.proofs as r4_history
