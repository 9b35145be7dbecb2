-- What to believe: Lines. The rest are laws.
pub mod Lines
pub mod Listing
pub mod Sizes
