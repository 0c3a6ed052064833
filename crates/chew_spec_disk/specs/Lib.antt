pub mod Crash
pub mod Disk
pub mod Memory
pub mod Moments
pub mod Reads
pub mod Sync
pub mod Write
