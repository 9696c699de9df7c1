pub mod Scaled
pub mod NearTotals
