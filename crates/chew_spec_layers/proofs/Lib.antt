pub mod Marks
pub mod Needs
pub mod Overlays
pub mod Proper
pub mod Standings
pub mod Steps
pub mod Stretches
pub mod Touches
