-- The numbers of refusal, and answers by number.
pub mod Number
pub mod NumberLaws
