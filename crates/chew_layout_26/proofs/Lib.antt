pub mod Ascii
pub mod Rest
