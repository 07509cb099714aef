mod Prelude
pub mod Whole
pub mod Hears
pub mod PhrasesHeard
pub mod SentenceFound
mod WorkedSentences
pub mod Found
pub mod FoundItems
pub mod FoundFile
pub mod FaultedTokens
pub mod SectionFaults
pub mod RowShapes
pub mod DraftFaults
pub mod RowNames
pub mod EntryFaults
mod WorkedTokens
