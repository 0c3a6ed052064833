pub mod SharedCalls
pub mod Known
pub mod Needs
pub mod Snapshot
