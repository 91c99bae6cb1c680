pub mod SendLaws
pub mod TripleLaws
pub mod DealLaws
pub mod InputLaws
pub mod GateLaws
pub mod CutLaws
pub mod OutLaws
pub mod WrittenLaws
