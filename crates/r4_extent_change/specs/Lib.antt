pub mod Beside
pub mod Turned
pub mod Wider
pub mod Changing
pub mod Among
pub mod Losing
-- what crates above name by way of this one
pub use Rattle.r4_extent_renew.specs.r4_extent_blocks
pub use Rattle.r4_extent_loss.specs.r4_extent_build
pub use Rattle.r4_extent_renew.specs as r4_extent_renew
pub use Rattle.r4_extent_renew.specs.r4_node40
pub use Rattle.r4_build.specs.r4_measure
pub use Rattle.r4_build.specs as r4_build
pub use Rattle.r4_extent_loss.specs as r4_extent_loss
pub use Rattle.r4_extent_counts.specs as r4_extent_counts
