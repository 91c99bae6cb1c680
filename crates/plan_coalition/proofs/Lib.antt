pub mod Coalitions
pub mod Worked
pub mod Owned
