-- ---- what public laws and contracts say
pub mod Declaration
pub mod Bounds
pub mod Consistency
pub mod Refusal
pub mod Made
pub mod Meaning
pub mod FileFault
pub mod Answer
pub mod Finish
pub mod Laws
pub mod ColumnLine
pub mod RowTerms
pub mod Stopped
-- ---- what only the code cites
pub mod Tables
pub mod Calls
pub mod LineTables
pub mod TermTables
pub mod FaultFound
