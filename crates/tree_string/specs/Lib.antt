pub mod TreeString
pub mod Claims
pub mod Steps
