mod Prelude
pub mod ListedText
pub mod LexemeLemmas
pub mod LineLemmas
pub mod PhraseWalk
pub mod WorkedTexts
pub mod TextWalk
pub mod ListedSlots
pub mod UnrefusedText
pub mod LpFormat
pub mod ListedParts
pub mod ListedMeaning
pub mod DerivedLines
