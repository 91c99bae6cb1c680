pub mod Contents
pub mod Readers
