pub mod Reading
pub mod Replay
pub mod Heads
pub mod Txns
pub mod Overlaps
pub mod Chains
pub mod Placing
pub mod Homes
