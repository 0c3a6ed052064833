pub mod Buffer
pub mod Cell
pub mod Edit
pub mod InTurn
pub mod Known
pub mod PlacedRun
pub mod ShownText
pub mod Window
