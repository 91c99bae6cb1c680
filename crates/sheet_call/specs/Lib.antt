pub mod Compiling
pub mod Measures
