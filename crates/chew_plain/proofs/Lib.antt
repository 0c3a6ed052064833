pub mod ByKey
pub mod KeyRows
pub mod Looks
pub mod Orders
pub mod Outcomes
pub mod Standing
pub mod Together
