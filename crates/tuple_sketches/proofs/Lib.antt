pub mod ImageLayouts
pub mod GivenValues
pub mod Sums
pub mod Streams
pub mod ReadBack
