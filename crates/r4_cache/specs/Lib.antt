pub mod Cached
pub mod Lending
