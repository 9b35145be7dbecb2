-- A check of a run: its messages, what is kept of its edges, and its values.
pub mod Checked
