pub mod Appended
pub mod Cuts
pub mod Fronts
pub mod LinesTaken
pub mod NextLine
pub mod Numbers
