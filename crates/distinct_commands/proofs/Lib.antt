pub mod OnlyMemory
mod WholeStreams
pub mod NextImages
pub mod Evaluated
pub mod FirstItems
pub mod Ranking
pub mod ShownImages
pub mod ShowFailures
pub mod VisitFailures
pub mod GroupLines
pub mod GroupResults
pub mod Answered
pub mod Failing
pub mod Overlaps
pub mod Pairs
pub mod EachFile
