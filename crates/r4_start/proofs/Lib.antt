mod FirstOwed
mod Replayed
-- what crates above name by way of this one
pub use Rattle.r4_open.proofs as r4_open
