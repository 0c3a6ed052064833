pub mod Adding
pub mod Generated
pub mod KeyLines
pub mod KeyNames
pub mod Lists
pub mod Tables
pub mod Texts
