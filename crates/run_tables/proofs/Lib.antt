pub mod StepLaws
pub mod GateLaws
pub mod FillLaws
