pub mod Computing
pub mod OtherKinds
mod Sizes
pub mod WithinRanges
