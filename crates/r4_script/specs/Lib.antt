pub mod Command
pub mod Field
pub mod Grammar
pub mod Progress
pub mod Spelling
pub mod Split
pub mod Text
pub mod Word
