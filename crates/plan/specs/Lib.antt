pub mod Refusals
pub mod Plans
pub mod File
pub mod Planned
pub mod Kinds
