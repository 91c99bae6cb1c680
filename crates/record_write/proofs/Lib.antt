pub mod Sets
pub mod Contents
pub mod Recording
