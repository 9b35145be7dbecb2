-- What follows of the definitions of a code's edges.
-- Insert: one address more in a row. Degree: how many edges a check has. Count: E. Lists: the lists in one slice.
-- Encoder: encoding meets every check, by the only parity that does. Modulo: addresses count modulo P only.
pub mod Inside
pub mod Insert
pub mod Degree
pub mod Count
pub mod Lists
pub mod Encoder
pub mod Modulo
