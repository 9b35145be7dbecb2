pub mod Corrected
