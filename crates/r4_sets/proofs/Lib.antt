pub mod Cells
pub mod Mixed
pub mod Bodies
pub mod Carried
pub mod Goes
pub mod Choosing
pub mod Applied
pub mod Answered
pub mod Gathered
pub mod Flushed
pub mod Renamed
pub mod Patches
pub mod FilesAfter
pub mod Promised
pub mod Shown
pub mod BodyKinds
-- what crates above name by way of this one
pub use Rattle.r4_patch.proofs as r4_patch
pub use Rattle.r4_trace.proofs as r4_trace
