pub mod Word
pub mod Claims
