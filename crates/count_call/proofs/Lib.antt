pub mod SizeLaws
pub mod CheckLaws
pub mod CallLaws
