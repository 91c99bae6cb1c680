pub mod LearnLaws
pub mod SpentLaws
