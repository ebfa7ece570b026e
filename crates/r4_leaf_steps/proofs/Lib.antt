pub mod Edited
mod Looked
