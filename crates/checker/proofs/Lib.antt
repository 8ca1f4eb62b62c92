pub mod Comparing
pub mod Laws
pub mod Examples
