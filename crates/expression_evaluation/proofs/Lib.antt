pub mod WholeSets
pub mod RunSteps
pub mod TwoSketches
pub mod MappedOperators
pub mod Unrefused
pub mod SumsRefused
pub mod OpenUnions
