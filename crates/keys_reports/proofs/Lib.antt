pub mod Consistency
pub mod OddNames
pub mod PlainNames
pub mod Respellings
pub mod HumanCases
