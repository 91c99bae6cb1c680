pub mod IdealLaws
