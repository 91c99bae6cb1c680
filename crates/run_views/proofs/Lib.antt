pub mod FlatLaws
pub mod JoinLaws
pub mod ViewLaws
pub mod WriteLaws
