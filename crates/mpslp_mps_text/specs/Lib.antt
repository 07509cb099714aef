pub mod PrintedValues
pub mod CanonicalMps
