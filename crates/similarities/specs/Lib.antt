pub mod Similarities
pub mod Forms
