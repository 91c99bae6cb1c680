pub mod Formula
pub mod Proper
pub mod Sound
