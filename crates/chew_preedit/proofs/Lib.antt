pub mod Edits
pub mod Filtered
pub mod Marks
pub mod Rooms
pub mod RunSteps
pub mod Stands
