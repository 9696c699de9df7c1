pub mod Updatable
pub mod Settings
pub mod View
pub mod Fraction
