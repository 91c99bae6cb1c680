pub mod Coalitions
