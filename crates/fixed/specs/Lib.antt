-- The sequential iteration by columns.
pub mod Sequential
