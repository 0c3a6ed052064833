pub mod Answers
pub mod Crew
pub mod Saving
pub mod Typing
