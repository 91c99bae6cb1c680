pub mod Files
pub mod Writing
pub mod Rows
pub mod Rooms
pub mod Rewritten
