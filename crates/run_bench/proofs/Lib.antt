pub mod BenchLaws
pub mod RunCheckLaws
pub mod OutLaws
