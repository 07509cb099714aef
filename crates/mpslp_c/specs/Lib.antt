pub mod Arrays
pub mod Faults
pub mod Stored
pub mod Answers
pub mod Laws
