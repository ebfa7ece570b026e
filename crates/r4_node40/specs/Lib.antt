pub mod Laid
pub mod View
pub mod Loan
pub mod Splice
pub mod Edits
