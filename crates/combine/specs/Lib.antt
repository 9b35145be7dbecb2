-- The combined word and what holds of it, when a call is refused, and small inputs computed.
pub mod Combined
pub mod CombinedLaws
pub mod Answers
pub mod AnswersLaws
pub mod Theorems
pub mod Example
