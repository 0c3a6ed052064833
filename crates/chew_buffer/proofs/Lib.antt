pub mod Entries
pub mod Least
pub mod Orders
pub mod Ranges
