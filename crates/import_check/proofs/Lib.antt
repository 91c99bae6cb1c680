pub mod Marks
pub mod Counting
