pub mod Rounds
pub mod Ideal
pub mod Shares
pub mod Tables
pub mod Preparing
pub mod Settings
