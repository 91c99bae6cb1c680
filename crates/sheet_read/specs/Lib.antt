pub mod Working
pub mod Reading
