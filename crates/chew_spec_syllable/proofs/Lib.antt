pub mod CodeParts
pub mod Marks
pub mod Reading
pub mod Order
pub mod PhraseEnd
pub mod Apart
