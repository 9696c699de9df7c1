pub mod Expressions
pub mod Tokens
pub mod Grammar
pub mod Reading
