pub mod Search
pub mod Entries
pub mod Content
pub mod Number
pub mod Layout
pub mod LendingRow
pub mod LendingNode
pub mod LendingEntries
