pub mod Trees
pub mod Claims
