pub mod ReaderLemmas
pub mod CompleteLineLemmas
pub mod WorkedPieces
pub mod WrittenLemmas
