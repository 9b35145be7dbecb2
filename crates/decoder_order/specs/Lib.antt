-- The order in which lanes take words.
pub mod Order
