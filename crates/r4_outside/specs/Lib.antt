pub mod Device
pub mod Source
pub mod Sink
pub mod Record
pub mod Memory
pub mod MemoryText
pub mod Mix
pub mod Crash
