pub mod Clearing
pub mod Finding
pub mod Gathering
pub mod Parting
pub mod Planning
pub mod Rising
