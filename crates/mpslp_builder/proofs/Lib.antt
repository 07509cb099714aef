pub mod Prelude
pub mod MadeDrafts
pub mod EntryLemmas
pub mod ListingLemmas
pub mod RankedSlots
pub mod DraftEntries
pub mod SlotLemmas
pub mod BoundsLemmas
pub mod RefusalLemmas
pub mod MeaningFromNoFault
pub mod TableDrafts
pub mod AlikeLemmas
pub mod ReadingLemmas
pub mod LineLemmas
pub mod FinishLemmas
mod WorkedRows
mod WorkedModels
