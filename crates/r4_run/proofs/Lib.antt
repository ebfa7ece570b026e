pub mod Ends
pub mod Told
pub mod Scripted
pub mod Closing
pub mod Stopped
pub mod Completed
