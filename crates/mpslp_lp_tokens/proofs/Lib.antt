pub mod SliceLemmas
pub mod WordLemmas
pub mod NameTokens
pub mod NumberRun
pub mod FrontLemmas
mod WordLength
