pub mod MemberLaws
pub mod LowestLaws
pub mod TruncatedLaws
pub mod StepMatchLaws
pub mod RunsLaws
pub mod AloneLaws
pub mod PairLaws
