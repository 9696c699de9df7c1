pub mod Folds
pub mod Differences
pub mod Shown
pub mod Joining
pub mod Held
pub mod Refusals
pub mod WrittenAndRead
