pub mod DeviceLemmas
pub mod GrowsLemmas
pub mod BufferLemmas
pub mod OutputLemmas
pub mod LinesAtLemmas
pub mod EachLemmas
pub mod NumberLemmas
