pub mod Seeds
pub mod Lists
pub mod AnySeed
pub mod Choices
pub mod Images
pub mod Failures
pub mod Records
