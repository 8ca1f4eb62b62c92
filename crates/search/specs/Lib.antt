pub mod Searching
pub mod Steps
