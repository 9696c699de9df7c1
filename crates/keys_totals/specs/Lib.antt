pub mod Totals
pub mod Refusals
