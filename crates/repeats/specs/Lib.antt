pub mod Runs
pub mod Report
pub mod Refusals
pub mod Answers
pub mod Roots
pub mod Gathered
pub mod Claims
