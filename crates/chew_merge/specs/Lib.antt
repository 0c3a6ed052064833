pub mod MarkRefs
pub mod Rest
