pub mod Faults
pub mod Keys
pub mod Lines
pub mod Notes
pub mod Sound
pub mod Table
