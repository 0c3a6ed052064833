pub mod Base
pub mod Calls
pub mod Keeping
pub mod Marking
pub mod Picked
pub mod Saying
pub mod Shown
pub mod Visible
