pub mod Tables
pub mod Joins
pub mod Reading
pub mod Evaluated
