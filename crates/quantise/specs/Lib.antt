-- The soft word, what its nearest whole number is, and a float's bits as a number.
pub mod Soft
pub mod Nearest
pub mod Bits
