pub mod Ahead
pub mod Lines
pub mod Chosen
pub mod Passing
pub mod Mapping
pub mod Names
