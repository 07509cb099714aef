-- ---- what public laws and contracts say
pub mod Conversions
pub mod Runs
pub mod FaultLine
pub mod Laws
pub mod InjectiveTexts
pub mod ShownText
pub mod Feeding
-- ---- what only the code cites
pub mod Compared
