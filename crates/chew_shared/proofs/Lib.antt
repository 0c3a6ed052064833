pub mod Legality
pub mod Turns
