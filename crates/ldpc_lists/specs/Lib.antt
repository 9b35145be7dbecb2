-- How the lists are filled: the ends from the counts, then each edge before what its check has.
pub mod Ends
pub mod Build
