-- ---- what public laws and contracts say
pub mod Ordered
pub mod RowParts
pub mod Parts
pub mod ColumnTable
pub mod DeclaredBounds
-- ---- what only the code cites
pub mod StoredBounds
pub mod StoredColumns
pub mod CoefficientLog
pub mod Grouping
pub mod Swapped
pub mod KnownPairs
pub mod RowForm
