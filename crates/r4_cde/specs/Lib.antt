pub mod Spelling
pub mod Shown
pub mod Offsets
pub mod Splice
pub mod Edits
