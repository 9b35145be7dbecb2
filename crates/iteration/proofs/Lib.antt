-- Proofs that min1 and min2 are the two smallest magnitudes: of what specs/Least and specs/Smallest say.
pub mod Least
pub mod Smallest
