mod Names
mod Losing
mod Leaving
mod Numbers
pub mod Found
-- what crates above name by way of this one
pub use Rattle.r4_extent_growth.proofs.r4_extent_demands
pub use Rattle.r4_extent_growth.proofs.r4_extent_change
pub use Rattle.r4_extent_growth.proofs as r4_extent_growth
