pub mod AnyOrder
pub mod Worked
