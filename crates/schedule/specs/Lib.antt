-- The schedule of a run over any words, in reading order. What a reader must believe: the run as the scope tells it, a word alone, what a result
-- says of each word.
pub mod Run
pub mod Alone
pub mod Status
-- what a word alone's end is; the claim about a whole run that joins the run and the word alone
pub mod AloneLaws
pub mod WholeRun
-- in which rounds a word is held; the same run when lanes are refilled in passes
pub mod Iterations
pub mod Together
-- words that the theorems of proofs/ need: sums over lanes, queue and log, what is true of a run in every round, places
pub mod Sums
pub mod Rounds
pub mod Places
-- what the contracts of a run over real memory cite
pub mod Lanes
pub mod Refill
pub mod Round
pub mod Loop
pub mod Close
