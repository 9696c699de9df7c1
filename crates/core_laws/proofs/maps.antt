pub mod Ascending
pub mod LookUps
pub mod Insertions
pub mod MapsOfLists
pub mod MappedEntries
pub mod BinarySearch
pub mod ApartEntries
