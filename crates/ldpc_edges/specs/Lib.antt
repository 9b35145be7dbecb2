-- A code's edges: the definitions (Code, and of lists of edges, ascending lists, all edges, their layout, bits and addresses). What follows of them
-- stands in proofs/, under the same names (of Layout, under Lists).
pub mod Code
pub mod Inside
pub mod Insert
pub mod Count
pub mod Layout
pub mod Encoder
pub mod Modulo
