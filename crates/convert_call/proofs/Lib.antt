pub mod Reading
pub mod Converting
