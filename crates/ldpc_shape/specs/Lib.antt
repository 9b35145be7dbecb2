-- The shape of a code: its numbers and refusals, what acceptance says, and the counts of addresses modulo q.
pub mod Shape
pub mod Accepted
pub mod Counts
