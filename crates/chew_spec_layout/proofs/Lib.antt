pub mod AnyLayout
pub mod Columns
pub mod Fed
pub mod Held
pub mod Lettered
pub mod OtherKeys
pub mod Patterns
pub mod Spelling
