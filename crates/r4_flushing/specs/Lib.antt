pub mod Sealing
pub mod Sealable
-- what crates above name by way of this one
pub use Rattle.r4_accounting.specs as r4_accounting
pub use Rattle.r4_accounting.specs.r4_done
pub use Rattle.r4_renaming.specs.r4_flush
pub use Rattle.r4_renaming.specs.r4_flushed
pub use Rattle.r4_renaming.specs.r4_placed
pub use Rattle.r4_renaming.specs as r4_renaming
pub use Rattle.r4_renaming.specs.r4_sealed
pub use Rattle.r4_renaming.specs.r4_sets
pub use Rattle.r4_renaming.specs.r4_sets_told
