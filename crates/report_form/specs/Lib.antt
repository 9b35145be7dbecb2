-- What to believe: Description (what a text says and how it is written). Reading: what a reader answers. The rest are laws: Unique, Longest,
-- Listing and Accepted for others, Form and Forms for the readers' contracts.
pub mod Description
pub mod Reading
pub mod Unique
pub mod Longest
pub mod Listing
pub mod Accepted
pub mod Form
pub mod Forms
