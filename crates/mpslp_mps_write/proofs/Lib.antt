pub mod CellLemmas
pub mod ColumnLemmas
pub mod BoundLines
pub mod RowLines
pub mod IntegerPart
pub mod DifferenceLemmas
