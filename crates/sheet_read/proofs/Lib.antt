pub mod Names
pub mod Gates
pub mod Leaves
pub mod Readers
