pub mod Key
pub mod Phrase
pub mod Row
pub mod Syllable
pub mod SyllableText
