pub mod Size
pub mod Claims
