pub mod Rows
pub mod Openings
