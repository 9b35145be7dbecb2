pub mod Binary
pub mod Found
pub mod OnlyRegister
