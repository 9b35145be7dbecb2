-- The arithmetic of one lane: what it makes a message of (Reply), what fits eight bits (Fits), and that it makes the message of the definition (Laws).
pub mod Reply
pub mod Fits
pub mod Laws
