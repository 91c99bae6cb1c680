pub mod Walks
pub mod Coding
pub mod Weighing
