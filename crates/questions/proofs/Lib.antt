pub mod Examples
pub mod Counting
pub mod Questions
pub mod Laws
