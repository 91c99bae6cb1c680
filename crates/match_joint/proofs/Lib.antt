pub mod Moved
pub mod Joint
pub mod Jointly
pub mod Worked
