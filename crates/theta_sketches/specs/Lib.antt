pub mod View
pub mod Image
pub mod Streams
