pub mod Failures
pub mod Natures
