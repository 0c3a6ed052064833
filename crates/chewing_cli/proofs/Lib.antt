pub mod Openings
pub mod Printing
pub mod Reading
pub mod Recovered
pub mod Runs
pub mod Sent
