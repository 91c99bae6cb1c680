pub mod Writing
pub mod Flat
