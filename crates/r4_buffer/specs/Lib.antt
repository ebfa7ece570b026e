pub mod Seen
pub mod Changed
pub mod Kept
pub mod Reading
pub mod InMemory
-- what crates above name by way of this one
pub use Rattle.r4_search.specs as r4_search
