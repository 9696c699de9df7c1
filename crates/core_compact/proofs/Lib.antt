pub mod LawsOfShown
pub mod Answered
pub mod Exchanges
