-- The edges of a variable in a run, worked out from the addresses: what a run counts on (Table), its proof (Edges, Count, Spans, Conflicts), the table as it is
-- made (Marks), and all that the layers of an iteration go by (Prepared).
pub mod Table
pub mod Edges
pub mod Count
pub mod Spans
pub mod Conflicts
pub mod Marks
pub mod Prepared
