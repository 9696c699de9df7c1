pub mod Joining
pub mod Words
pub mod Fitting
pub mod Reading
pub mod Giving
pub mod Headers
pub mod Numbers
