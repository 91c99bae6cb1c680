pub mod Factors
pub mod Tables
pub mod Fitting
pub mod Ruling
