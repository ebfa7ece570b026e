pub mod Asking
pub mod MetCells
pub mod Given
pub mod Clear
pub mod KeepsRead
pub mod KeepsRoom
pub mod Startable
-- what crates above name by way of this one
pub use Rattle.r4_serve.proofs.r4_commit
pub use Rattle.r4_taking.proofs.r4_durable
pub use Rattle.r4_taking.proofs.r4_kept
pub use Rattle.r4_taking.proofs.r4_suited
pub use Rattle.r4_taking.proofs as r4_taking
