pub mod Command
pub mod PlainTable
