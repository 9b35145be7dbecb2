-- The field of the BCH code; then its laws: its operations, the checks that make it a field, the order of its element alpha, the generator's roots.
pub mod Field16
pub mod Operations
pub mod Checks16
pub mod Alpha
pub mod Roots16
