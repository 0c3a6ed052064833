pub mod Columns
pub mod Front
pub mod Step
