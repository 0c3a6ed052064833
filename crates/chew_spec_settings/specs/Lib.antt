pub mod Fault
pub mod Name
pub mod Values
pub mod SettingsText
