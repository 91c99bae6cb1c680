pub mod AgreeLaws
pub mod Agreed
