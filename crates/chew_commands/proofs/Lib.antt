pub mod Making
pub mod RunWords
pub mod Sent
