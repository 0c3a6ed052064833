pub mod Merging
pub mod Overlaying
pub mod Prefix
pub mod Steps
