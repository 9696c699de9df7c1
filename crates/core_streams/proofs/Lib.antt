pub mod WholeMaps
pub mod HashSets
pub mod Folds
pub mod Calls
