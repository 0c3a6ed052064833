pub mod Children
pub mod Parents
pub mod Phrases
pub mod Root
pub mod Steps
