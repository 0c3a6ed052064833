pub mod Fronts
pub mod Passes
pub mod Sights
