pub mod Prelude
pub mod LpLineTexts
pub mod LpTerms
pub mod FirstPlace
