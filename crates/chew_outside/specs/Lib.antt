pub mod Events
pub mod ReadFault
