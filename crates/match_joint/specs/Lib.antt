pub mod Joint
pub mod JointLists
