pub mod Fronts
pub mod LinesLeft
