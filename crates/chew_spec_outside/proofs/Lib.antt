pub mod Counts
pub mod Contents
