pub mod Walk
pub mod Blocks
pub mod Looking
pub mod Units
pub mod Tree
pub mod Rows
-- what crates above name by way of this one
pub use Rattle.r4_list.specs as r4_list
pub use Rattle.r4_open.specs as r4_open
pub use Rattle.r4_list.specs.r4_search
