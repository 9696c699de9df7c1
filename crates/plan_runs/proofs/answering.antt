pub mod CommandAnswers
pub mod RunEndings
