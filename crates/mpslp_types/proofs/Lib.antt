pub mod BoolLemmas
pub mod EachLemmas
pub mod NameLemmas
pub mod ByteSetLemmas
pub mod ReservedLemmas
mod WorkedNames
pub mod LimitLemmas
pub mod RangeLemmas
pub mod SearchLemmas
pub mod PutKeyLemmas
