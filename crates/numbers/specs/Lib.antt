pub mod Tables
pub mod Bytes
