pub mod MoveLaws
pub mod GateMoveLaws
pub mod TruncationLaws
