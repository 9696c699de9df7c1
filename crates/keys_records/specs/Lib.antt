pub mod Fields
pub mod Steps
pub mod Stages
pub mod Spelling
