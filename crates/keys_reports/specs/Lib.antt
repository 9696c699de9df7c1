pub mod Reports
pub mod Names
pub mod Forms
pub mod Human
pub mod Ranges
