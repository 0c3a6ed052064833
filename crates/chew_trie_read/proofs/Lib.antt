pub mod Among
pub mod Climbing
pub mod Finding
pub mod Places
pub mod Stored
pub mod Together
