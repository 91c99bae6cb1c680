pub mod Settings
pub mod Rows
pub mod CountCalls
