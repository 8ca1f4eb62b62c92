pub mod Counts
pub mod Splitting
