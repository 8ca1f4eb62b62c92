pub mod Spare
pub mod Answering
pub mod Whole
pub mod Filling
