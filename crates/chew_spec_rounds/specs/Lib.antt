pub mod Front
pub mod InStep
pub mod Known
pub mod LastRounds
pub mod Round
pub mod Seq
pub mod Session
pub mod WriteSteps
