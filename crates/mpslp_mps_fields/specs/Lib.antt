pub mod Line
pub mod ObjNameHeader
pub mod DataLine
