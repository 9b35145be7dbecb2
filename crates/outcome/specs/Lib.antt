-- One word: its values, bits and outcome (Outcome), and what follows of them.
-- State: its number in a record. Soft: what a scan of a word's soft values reads. Scan: checks counted one after the other. Laws: bits, lengths, words kept, doubtful and lost.
-- Changed: the bits that the LDPC step changed.
-- Corrected: the BCH part of which proofs/Corrected.antt says what correcting it gives. Weight: the unsatisfied checks are the syndrome weight.
pub mod Outcome
pub mod State
pub mod Soft
pub mod Scan
pub mod Laws
pub mod Changed
pub mod Corrected
pub mod Weight
