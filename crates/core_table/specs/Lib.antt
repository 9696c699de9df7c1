pub mod HashTable
mod Insertion
pub mod Filling
pub mod ResizeFactor
pub mod Gathering
pub mod Marks
