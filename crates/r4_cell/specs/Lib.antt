pub mod Seen
pub mod Patch
pub mod Ends
pub mod Words
pub mod OnDisk
-- what crates above name by way of this one
pub use Rattle.r4_node40.specs as r4_node40
