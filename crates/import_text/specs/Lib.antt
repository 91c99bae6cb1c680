pub mod Circuits
pub mod Scanning
