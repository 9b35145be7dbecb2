pub mod Held
pub mod Taking
mod Filling
