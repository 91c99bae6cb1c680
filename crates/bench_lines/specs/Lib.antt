pub mod Report
pub mod Placed
