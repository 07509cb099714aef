-- ---- what only the code cites
pub mod LpLinesAt
