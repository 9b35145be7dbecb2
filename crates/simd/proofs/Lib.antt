-- Where the first pass begins.
pub mod Start
