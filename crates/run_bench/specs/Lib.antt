pub mod BenchCalls
pub mod Checks
