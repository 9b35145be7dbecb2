-- What the locator of wrong bits finds. Reading order: Element, Syndromes, Register, Places; Lanes is how the code works on sixteen elements at once.
pub mod Element
pub mod Lanes
pub mod Syndromes
pub mod Register
pub mod Shortest
pub mod Places
