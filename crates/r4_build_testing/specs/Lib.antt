pub mod Small
pub mod Commands
