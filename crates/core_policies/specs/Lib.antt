pub mod Summaries
pub mod Sums
