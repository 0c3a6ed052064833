pub mod Known
pub mod Layers
pub mod Mark
pub mod Need
pub mod Overlay
pub mod Standing
pub mod Touches
