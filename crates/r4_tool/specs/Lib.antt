pub mod Edge
pub mod Complaints
