pub mod PrintedDeclarations
pub mod Laws
