pub mod Others
-- what crates above name by way of this one
pub use Rattle.r4_history.specs as r4_history
