-- The scope's starred bench examples as one theorem (Starred); the words and codes that they are about (Inputs) and why the BCH word's hold (Bch);
-- further examples (Unstarred); and where Raxdov refuses what the Rust does not (Differences).
pub mod Inputs
pub mod Bch
pub mod Starred
pub mod Unstarred
pub mod Differences
