pub mod OwnerLaws
pub mod SettingLaws
pub mod RowLaws
