pub mod Totals
pub mod Bounds
pub mod Forms
