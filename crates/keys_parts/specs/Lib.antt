pub mod Parts
pub mod Stages
