pub mod Among
pub mod AmongIn
pub mod LeavesLeft
pub mod Making
pub mod AmongEach
