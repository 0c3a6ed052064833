pub mod Asked
pub mod Layered
pub mod Needed
pub mod Waiting
