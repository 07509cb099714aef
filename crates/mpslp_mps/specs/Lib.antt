-- ---- what public laws and contracts say
pub mod Context
pub mod SeenSection
pub mod NextContext
pub mod LineDeclarations
pub mod LegalLine
pub mod LineFault
pub mod MpsText
pub mod FirstFault
pub mod LineByLine
pub mod Laws
pub mod ReadAnswer
pub mod Fed
pub mod FedLaws
-- ---- what only the code cites
pub mod ContextStep
pub mod LineValues
pub mod LineAnswer
pub mod VectorDeclared
pub mod ColumnDeclared
pub mod UsualLine
pub mod KindClash
