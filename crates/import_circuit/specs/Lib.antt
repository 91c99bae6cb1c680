pub mod Wires
pub mod Bits
pub mod Making
