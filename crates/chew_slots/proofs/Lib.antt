pub mod Bodies
pub mod Empty
pub mod Magics
pub mod Moments
pub mod Places
pub mod Recovering
