mod Telling
pub mod MkfsTold
pub mod Listed
mod Checked
