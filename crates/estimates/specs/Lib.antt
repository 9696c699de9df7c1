pub mod Bounds
pub mod Fraction
