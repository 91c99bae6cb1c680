pub mod Bytes
pub mod Whole
