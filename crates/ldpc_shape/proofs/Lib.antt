mod Loops
pub mod Accepted
