pub mod OneBody
pub mod Reached
pub mod SeenThere
pub mod BodiesThen
pub mod BodyTold
pub mod SpreadSpared
pub mod KeysTouched
pub mod Over
pub mod Counted
pub mod Filled
pub mod PlainDone
pub mod MoveDone
pub mod Applied
pub mod InSession
-- what crates above name by way of this one
pub use Rattle.r4_sets_told.proofs.r4_sets
pub use Rattle.r4_sets_told.proofs as r4_sets_told
pub use Rattle.r4_build.proofs as r4_build
