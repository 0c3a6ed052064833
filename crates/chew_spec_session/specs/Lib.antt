pub mod Context
pub mod LastRounds
pub mod Session
