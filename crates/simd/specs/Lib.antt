-- A check's two passes over the memory, by columns, and the column laws.
pub mod Memory
pub mod Pass
pub mod Words
pub mod WordsLaws
