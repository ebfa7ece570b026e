pub mod Roomy
mod Own
mod SentOut
pub mod Sent
mod Buildable
-- what crates above name by way of this one
pub use Rattle.r4_seal.proofs.r4_kept
pub use Rattle.r4_seal.proofs.r4_open
pub use Rattle.r4_seal.proofs.r4_ready
pub use Rattle.r4_seal.proofs.r4_taking
