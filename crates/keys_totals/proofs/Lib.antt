pub mod OwnTotals
pub mod LackingLines
