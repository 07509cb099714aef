pub mod DefinesLemmas
pub mod KnownLemmas
pub mod StatedDraft
pub mod NumberLemmas
pub mod StatedMeaning
