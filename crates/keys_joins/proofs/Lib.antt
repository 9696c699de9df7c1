pub mod Lookups
pub mod JoinedNames
pub mod FilesInTurn
pub mod AllNames
pub mod EvaluatedTexts
