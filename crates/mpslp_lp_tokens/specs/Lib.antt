pub mod Token
pub mod Scan
pub mod Laws
