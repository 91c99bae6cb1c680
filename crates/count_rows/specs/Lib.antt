pub mod Tables
pub mod Sorts
pub mod Heaps
pub mod Merges
pub mod Lent
