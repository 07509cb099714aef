-- ---- what public laws and contracts say
pub mod Model
pub mod KeyOrder
pub mod Limits
pub mod RowForms
pub mod WrongParts
pub mod Views
pub mod ModelColumns
pub mod ModelParts
pub mod Same
pub mod SameLaws
pub mod Numbered
-- ---- what only the code cites
pub mod ModelCode
pub mod Columned
pub mod RowNames
pub mod ByRow
pub mod Iterators
pub mod Packed
pub mod ModelRow
