-- ---- what public laws and contracts say
pub mod LineByLine
pub mod LpText
pub mod FirstFault
pub mod Laws
pub mod ReadAnswer
pub mod Fed
pub mod FedLaws
-- ---- what only the code cites
pub mod PlainTerm
pub mod PlainPhrase
pub mod PlainStart
