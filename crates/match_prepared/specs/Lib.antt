pub mod PreparedCalls
pub mod PreparedParts
pub mod MatchingParts
