mod AnySeeds
mod ImageLines
pub mod ListNames
mod SeedFiles
