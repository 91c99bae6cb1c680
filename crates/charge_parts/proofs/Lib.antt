pub mod Loops
pub mod Sharing
