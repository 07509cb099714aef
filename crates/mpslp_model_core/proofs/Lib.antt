pub mod CellLemmas
pub mod RenumberLemmas
pub mod ViewLemmas
pub mod ColumnLemmas
pub mod ByRowLemmas
pub mod SameModels
pub mod PlainRowLemmas
