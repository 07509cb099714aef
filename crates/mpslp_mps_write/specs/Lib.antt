-- ---- what only the code cites
pub mod MpsLinesAt
