pub mod Fits
pub mod Keep
pub mod Reading
pub mod Recovery
pub mod Sample
pub mod Slot
pub mod Steps
