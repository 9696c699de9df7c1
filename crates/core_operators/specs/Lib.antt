pub mod Iter
pub mod View
pub mod Union
pub mod Search
pub mod Intersection
pub mod ANotB
pub mod Filter
pub mod Lists
