-- Coding theory over any field of characteristic 2, in reading order. Nothing here says 16.
-- definitions: rings and fields, sequences, registers, and the fields of 2 ^ m elements
pub mod Ring
pub mod Series
pub mod Register
pub mod Gf
pub mod GfField
-- laws of sequences, powers, roots
pub mod RingLaws
pub mod SeriesLaws
pub mod Power
pub mod Roots
pub mod Values
-- laws of registers, and what the shortest one says of the errors
pub mod Massey
pub mod Unique
pub mod Locator
pub mod Split
pub mod Errors
pub mod Places
pub mod Corrects
-- laws of the fields of 2 ^ m elements
pub mod GfLaws
pub mod GfChecks
