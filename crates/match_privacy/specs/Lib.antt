pub mod Matching
pub mod Bijections
