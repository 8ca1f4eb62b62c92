pub mod Checked
pub mod Comparing
pub mod Claims
