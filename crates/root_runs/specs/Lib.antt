pub mod States
pub mod Bounds
pub mod Claims
