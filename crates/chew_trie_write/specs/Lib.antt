pub mod Place
pub mod Unlike
