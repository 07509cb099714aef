pub mod ComparedLemmas
pub mod ConversionLemmas
pub mod LoadLemmas
pub mod RunLemmas
pub mod FaultLineLemmas
pub mod FeedingLemmas
pub mod ShownLemmas
