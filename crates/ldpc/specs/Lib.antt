-- What the entry points promise (Answers) and laws of it.
pub mod Answers
pub mod AnswersLaws
