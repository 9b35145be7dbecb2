-- The refusals of a run, and what it says of a run that none applies.
pub mod Refusal
pub mod Accepted
