pub mod Wires
pub mod Sound
pub mod Right
pub mod Figures
pub mod Ways
