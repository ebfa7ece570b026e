mod PutEach
mod PutWhole
mod PutSteps
mod Counted
pub mod Spared
pub mod Found
-- what crates above name by way of this one
pub use Rattle.r4_extent_turned.proofs.r4_extent_growth
pub use Rattle.r4_extent_among.proofs as r4_extent_among
pub use Rattle.r4_extent_turned.proofs.r4_extent_change
pub use Rattle.r4_extent_turned.proofs as r4_extent_turned
pub use Rattle.r4_extent_turned.proofs.r4_extent_shrink
