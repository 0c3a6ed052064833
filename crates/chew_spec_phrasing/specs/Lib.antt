pub mod Best
pub mod CombinedRows
pub mod Score
pub mod Segmentation
pub mod Usable
pub mod Search
pub mod CanSegment
pub mod Known
