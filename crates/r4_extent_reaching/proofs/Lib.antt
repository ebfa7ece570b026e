pub mod Marked
pub mod Assembled
pub mod Told
pub mod Within
-- what crates above name by way of this one
pub use Rattle.r4_extent_touching.proofs as r4_extent_touching
pub use Rattle.r4_reaching.proofs.r4_judging
pub use Rattle.r4_reaching.proofs as r4_reaching
pub use Rattle.r4_reaching.proofs.r4_spared
pub use Rattle.r4_reaching.proofs.r4_touching
