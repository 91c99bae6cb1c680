pub mod Sizes
pub mod Reading
