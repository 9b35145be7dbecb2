mod Bytes
mod Bits
mod Rows
mod Residue
