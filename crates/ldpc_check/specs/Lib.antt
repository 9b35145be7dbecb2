-- The list of one check is that of the definition: ldpc_edges, Code.
pub mod Found
