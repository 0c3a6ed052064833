pub mod Lists
pub mod Outcome
pub mod Phrasable
pub mod Pressed
pub mod Spans
pub mod State
