pub mod Phrases
pub mod Spelling
pub mod Meaning
pub mod Sentence
pub mod FaultsInWords
pub mod Laws
