pub mod Orders
pub mod Tallies
pub mod Joins
pub mod RightRows
pub mod Settings
pub mod Owned
