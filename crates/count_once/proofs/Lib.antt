pub mod Dealt
pub mod Seen
pub mod Once
