-- What the kit lacks. First the definitions that definitions of other crates use, to be believed; then laws, one home for each.
pub mod Definitions
-- tests and choices; a test computed below a bound; a function changed at one place
pub mod Choice
pub mod Tests
pub mod Put
-- lists: parts, and stores in loops
pub mod Lists
pub mod Stores
-- numbers: xor, polynomials over two elements, sums modulo 2, signed numbers of 8 bits, decimal texts
pub mod Xor
pub mod Poly
pub mod Modulo
pub mod Signed
pub mod Decimal
