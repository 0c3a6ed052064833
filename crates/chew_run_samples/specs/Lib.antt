pub mod CrashFinds
pub mod Runs
