pub mod Lines
pub mod Keys
pub mod Open
pub mod Hashed
