pub mod maps
pub mod cuts
pub mod insertions
pub mod operators
