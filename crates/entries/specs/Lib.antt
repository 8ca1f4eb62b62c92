pub mod Cleared
pub mod Lent
