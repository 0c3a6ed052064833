pub mod ByKey
pub mod Call
pub mod Look
pub mod Order
pub mod Standing
