pub mod Takings
pub mod Worth
pub mod Shards
pub mod Unions
pub mod Rereads
pub mod Turns
pub mod Compacts
pub mod Digits
pub mod Meets
pub mod Refused
pub mod Preambles
mod Seeding
pub mod Waiting
pub mod ReadLines
