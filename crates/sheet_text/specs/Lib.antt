pub mod Trees
pub mod Sheets
pub mod Making
