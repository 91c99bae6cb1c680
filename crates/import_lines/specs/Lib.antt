pub mod Lines
pub mod Places
