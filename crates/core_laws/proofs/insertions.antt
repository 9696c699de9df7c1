pub mod Cases
pub mod Merges
pub mod DroppedHashes
pub mod Unmarked
pub mod FoldedSteps
pub mod Leaves
