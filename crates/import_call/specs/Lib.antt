pub mod Importing
pub mod Measures
