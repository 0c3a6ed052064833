pub mod CellItem
pub mod Splice
