pub mod Reply
pub mod Progress
