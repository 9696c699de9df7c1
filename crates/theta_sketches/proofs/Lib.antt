pub mod ImageLayouts
pub mod ReadBack
pub mod UnitedHashes
pub mod Streams
