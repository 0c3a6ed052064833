pub mod Rounding
pub mod Seen
pub mod Writing
