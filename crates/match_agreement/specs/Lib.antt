pub mod MatchCalls
pub mod MatchParts
