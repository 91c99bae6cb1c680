pub mod Scanned
pub mod Words
pub mod Texts
