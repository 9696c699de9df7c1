pub mod families
pub mod evaluation
