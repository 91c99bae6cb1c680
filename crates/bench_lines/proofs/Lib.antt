pub mod Parts
pub mod Printed
pub mod Viewed
