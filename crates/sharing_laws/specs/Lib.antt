pub mod Poly
pub mod Interp
pub mod Sharing
pub mod Basis
pub mod OffLine
