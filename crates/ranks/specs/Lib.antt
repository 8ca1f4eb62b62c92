pub mod Ranks
pub mod Claims
