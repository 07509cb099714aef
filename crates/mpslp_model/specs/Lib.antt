pub mod Formats
pub mod FormatParts
pub mod Readers
pub mod CompleteLines
