-- The lengths, and that they are a code's.
pub mod Lengths
pub mod Codes
