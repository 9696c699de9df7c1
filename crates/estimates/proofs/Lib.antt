pub mod Roots
pub mod NearCounts
pub mod InParts
