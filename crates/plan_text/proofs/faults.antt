pub mod SyntaxStays
pub mod BeforeFault
pub mod TooDeep
pub mod WholeText
