pub mod Marks
pub mod Numbers
pub mod PhraseFront
pub mod Texts
