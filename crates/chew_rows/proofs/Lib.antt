pub mod FirstField
pub mod Keys
pub mod Pairs
pub mod Rising
pub mod Rows
pub mod Text
pub mod Whole
