pub mod Cutting
pub mod Fields
pub mod KeyPlaces
pub mod Texts
pub mod WholeFields
