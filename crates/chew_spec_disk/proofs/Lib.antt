pub mod Calls
pub mod Crashes
pub mod Histories
pub mod MemoryCalls
pub mod Moments
pub mod Written
