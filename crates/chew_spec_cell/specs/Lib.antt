pub mod Pass
pub mod Sight
