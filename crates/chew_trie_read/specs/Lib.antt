pub mod Rest
pub mod Search
pub mod Start
pub mod ImageBytes
