pub mod Combine
pub mod Counts
pub mod FirstPlace
pub mod Grid
pub mod Least
pub mod Merge
pub mod Table
