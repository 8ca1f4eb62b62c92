pub mod Excess
pub mod Claims
