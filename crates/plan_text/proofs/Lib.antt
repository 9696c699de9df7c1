pub mod words
pub mod grammar
pub mod faults
