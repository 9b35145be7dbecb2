-- The rows of a table as a list, each with its first bit.
pub mod Rows
