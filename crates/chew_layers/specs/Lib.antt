pub mod Contents
pub mod Inside
pub mod Need
pub mod OneMore
pub mod GreatestFrequency
pub mod Visible
