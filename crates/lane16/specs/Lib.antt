-- Sixteen lanes by value (Lanes). Interleaved memory by columns (Column), and what a call on it may count on (Memory).
pub mod Lanes
pub mod Column
pub mod ColumnLaws
pub mod Memory
