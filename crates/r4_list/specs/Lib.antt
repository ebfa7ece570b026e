pub mod Listing
pub mod Pool
pub mod Printing
pub mod Body
pub mod Frame
pub mod Below
pub mod Walking
pub mod Over
pub mod Lists
pub mod OverWalks
pub mod Printed
-- what crates above name by way of this one
pub use Rattle.r4_search.specs as r4_search
