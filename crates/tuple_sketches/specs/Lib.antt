pub mod Image
pub mod Sketch
pub mod Given
pub mod Numbers
pub mod Sums
pub mod Streams
