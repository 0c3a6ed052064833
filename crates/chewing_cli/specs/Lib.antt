pub mod RunEnd
pub mod Opens
pub mod PrintedLines
pub mod Refusals
pub mod Runs
pub mod Traces
