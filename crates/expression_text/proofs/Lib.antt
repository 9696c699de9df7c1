pub mod SplitTokens
mod FirstNames
pub mod Frames
mod NextToken
mod Shapes
