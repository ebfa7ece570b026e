mod Sums
mod EntryTests
