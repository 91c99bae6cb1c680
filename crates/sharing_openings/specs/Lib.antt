pub mod Openable
