pub mod ShapeLaws
pub mod JointLaws
pub mod TurnLaws
pub mod TripleLaws
pub mod MatchingLaws
pub mod DrawLaws
pub mod CallLaws
pub mod PartLaws
