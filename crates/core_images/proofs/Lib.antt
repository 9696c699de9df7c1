pub mod AscendingTests
pub mod SpelledEntries
pub mod ReadEntries
pub mod ReadSummaries
pub mod ImageLayouts
pub mod Fronts
pub mod ReadAgain
mod Chunks
pub mod WrittenPreambles
