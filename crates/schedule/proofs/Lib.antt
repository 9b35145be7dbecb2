-- What follows of the definitions of specs/, in reading order. A word alone's end; why the claim of WholeRun holds of every run (Theorem shows it);
-- that a word's iterations are the rounds in which it is held; two runs, computed; the same run when lanes are refilled in passes.
pub mod AloneLaws
pub mod Sums
pub mod Rounds
pub mod Places
pub mod Theorem
pub mod Iterations
mod Example
pub mod Together
-- what the loops of a run over real memory cite
pub mod Lanes
pub mod Filling
pub mod Refill
pub mod Round
pub mod Loop
pub mod Close
