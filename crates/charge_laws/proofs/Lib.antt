pub mod Totals
pub mod Parts
pub mod Elements
