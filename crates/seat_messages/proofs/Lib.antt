pub mod PointLaws
pub mod SumLaws
pub mod SpentLaws
