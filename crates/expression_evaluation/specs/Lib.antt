pub mod Values
pub mod Running
pub mod Sums
pub mod OpenUnions
pub mod Contents
