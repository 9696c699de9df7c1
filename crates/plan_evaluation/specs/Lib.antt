pub mod Parts
pub mod Refused
pub mod Answered
pub mod Answers
