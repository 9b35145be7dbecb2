mod Turns
pub mod Edges
