-- What the proofs of the functions cite: sizes from bits, floats as their bits, values written one by one.
mod Sizes
pub mod Floats
mod Writes
