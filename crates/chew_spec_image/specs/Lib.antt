pub mod Fields
pub mod Image
pub mod NodeKeys
pub mod Reading
pub mod ReadNodes
pub mod ReadRows
pub mod Sample
