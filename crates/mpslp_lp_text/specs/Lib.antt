pub mod Printed
pub mod CanonicalLp
pub mod Unfit
